-- Nodes that fit scripts, where nodes come or are changed.
use Rattle.std.proofs.Common.{◌≡◌, ℕ, zero, suc, All, List, [], ◌∷◌, ◌++◌, length, slice_get, Some, refl}
use Rattle.std.proofs.lemmas.List.Elements.{All-cons, All-head, All-nil, All-push, All-tail, All-weaker}
use Rattle.snap_ast.specs.declared.tree.Tree.{Tree}
use Rattle.snap_graph.specs.declared.kind.Kind.TheVariants.{Error, Function, Scope}
use Rattle.snap_graph.specs.declared.kind.ScopeKind.{ScopeKind}
use Rattle.snap_graph.specs.declared.node.Node.{Node}
use Rattle.snap_graph.specs.declared.value.Property.{Property}
use Rattle.snap_graph.specs.declared.value.Value.{Value}
use Rattle.spec_scopes.specs.Valid.{IsValidNode}
use Rattle.spec_values.specs.Operations.{changed, new_node, put_under, with_elements, with_own, with_properties}
use Rattle.spec_values.proofs.Holding.{all_put_under}
use Rattle.laws_valid.proofs.Keeping.{IsNoScope, Grows, chain_kept, changed_grows, changed_unscoped, more_grows, more_unscoped}

-- each node fits the scripts
abbrev pub Sound : List Tree → List Node → Type 0
Sound scripts nodes = All (IsValidNode nodes scripts) nodes

-- no value, or no property's, is a scope
abbrev pub NoScopes : List Node → List Value → Type 0
NoScopes nodes values = All (IsNoScope nodes) values

abbrev pub NoneHeld : List Node → List Property → Type 0
NoneHeld nodes properties = All (λ (property : Property). IsNoScope nodes property.value) properties

module _ (scripts : List Tree) where
  -- a node that stays as it is, where scopes are kept and its values are no scopes
  pub node_kept : (nodes after : List Node) → Grows nodes after → (node : Node)
      → (NoScopes nodes node.elements → NoScopes after node.elements) → (NoneHeld nodes node.properties → NoneHeld after node.properties) → IsValidNode nodes scripts node → IsValidNode after scripts node
  node_kept nodes after grows node elements properties valid = record {
    functions = λ script number is.
        let closes = valid.functions script number is in
        record { scope = closes.scope; needs = closes.needs; one = closes.one; scopes = chain_kept nodes after grows closes.scopes; function = closes.function };
    elements = λ other. elements (valid.elements other);
    properties = properties valid.properties;
  }

  -- and where no value that is none becomes a scope
  pub node_stays : (nodes after : List Node) → Grows nodes after → ((value : Value) → IsNoScope nodes value → IsNoScope after value) → (node : Node) → IsValidNode nodes scripts node → IsValidNode after scripts node
  node_stays nodes after grows unscoped node valid =
      node_kept nodes after grows node
      (All-weaker (IsNoScope nodes) (IsNoScope after) unscoped node.elements)
      (All-weaker (λ (p : Property). IsNoScope nodes p.value) (λ (p : Property). IsNoScope after p.value) (λ p h. unscoped p.value h) node.properties) valid

  -- an error that is made
  pub error_sound : (nodes : List Node) (prototype : Value) → Sound scripts nodes → Sound scripts (nodes ++ new_node Error prototype ∷ [])
  error_sound nodes prototype sound =
      let x = new_node Error prototype in
      let after = nodes ++ x ∷ [] in
      All-push (IsValidNode after scripts) nodes x
      (All-weaker (IsValidNode nodes scripts) (IsValidNode after scripts) (node_stays nodes after (more_grows nodes x) (λ value h. more_unscoped nodes x value refl h)) nodes sound)
      (record { functions = λ script number is. absurd cc; elements = λ other. All-nil (IsNoScope after); properties = All-nil (λ (p : Property). IsNoScope after p.value) })

  -- what holds of nodes holds of them where one is changed
  changed_all : (P Q : Node → Type 0) (change : Node → Node) → ((node : Node) → P node → Q node) → (nodes : List Node) (number : ℕ)
      → ((node : Node) → slice_get nodes number ≡ Some node → Q node → Q (change node)) → All P nodes → All Q (changed change nodes number)
  changed_all P Q change stay [] number here h = All-nil Q
  changed_all P Q change stay (node ∷ rest) zero here h = All-cons Q (change node) rest (here node refl (stay node (All-head P node rest h))) (All-weaker P Q stay rest (All-tail P node rest h))
  changed_all P Q change stay (node ∷ rest) (suc number) here h = All-cons Q node (changed change rest number) (stay node (All-head P node rest h)) (changed_all P Q change stay rest number here (All-tail P node rest h))

  -- a node with other properties
  pub properties_sound : (change : List Property → List Property) (nodes : List Node) (number : ℕ)
      → ((after : List Node) → ((value : Value) → IsNoScope nodes value → IsNoScope after value) → (properties : List Property) → NoneHeld after properties → NoneHeld after (change properties))
      → Sound scripts nodes → Sound scripts (changed (with_properties change) nodes number)
  properties_sound change nodes number none sound =
      let after = changed (with_properties change) nodes number in
      let unscoped = changed_unscoped (with_properties change) (λ node. refl) nodes number in
      changed_all (IsValidNode nodes scripts) (IsValidNode after scripts) (with_properties change)
      (node_stays nodes after (changed_grows (with_properties change) (λ node. refl) (λ node. refl) nodes number (λ node scope read is. refl)) unscoped)
      nodes number (λ node read valid. record { functions = valid.functions; elements = valid.elements; properties = none after unscoped node.properties valid.properties }) sound

  pub put_sound : (nodes : List Node) (number : ℕ) (key : List ℕ) (held : Value) → IsNoScope nodes held → Sound scripts nodes → Sound scripts (with_own nodes number key held)
  put_sound nodes number key held is sound =
      properties_sound (put_under key held) nodes number
      (λ after unscoped properties h. all_put_under key held (λ (p : Property). IsNoScope after p.value) (λ p old. unscoped held is) (unscoped held is) properties h) sound

  -- a node that is no function, with other elements
  pub elements_sound : (change : List Value → List Value) (nodes : List Node) (number : ℕ)
      → ((node : Node) (script tree : ℕ) → slice_get nodes number ≡ Some node → node.kind ≡ Function script tree → ⊥)
      → ((node : Node) (scope : ScopeKind) → slice_get nodes number ≡ Some node → node.kind ≡ Scope scope → length (change node.elements) ≡ length node.elements)
      → ((after : List Node) → ((value : Value) → IsNoScope nodes value → IsNoScope after value) → (elements : List Value) → NoScopes after elements → NoScopes after (change elements))
      → Sound scripts nodes → Sound scripts (changed (with_elements change) nodes number)
  elements_sound change nodes number no_function slots none sound =
      let after = changed (with_elements change) nodes number in
      let unscoped = changed_unscoped (with_elements change) (λ node. refl) nodes number in
      changed_all (IsValidNode nodes scripts) (IsValidNode after scripts) (with_elements change)
      (node_stays nodes after (changed_grows (with_elements change) (λ node. refl) (λ node. refl) nodes number slots) unscoped)
      nodes number
      (λ node read valid. record {
        functions = λ script tree is. absurd (no_function node script tree read is);
        elements = λ other. none after unscoped node.elements (valid.elements (λ script tree is. no_function node script tree read is));
        properties = valid.properties;
      })
      sound
