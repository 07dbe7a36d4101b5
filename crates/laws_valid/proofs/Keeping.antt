-- Chains of scopes, and values that are no scopes, where nodes come or are changed.
use Rattle.std.proofs.Common.{◌≡◌, ℕ, zero, suc, ◌≤◌, Bool, false, List, [], ◌∷◌, ◌++◌, length, slice_get, Option, Some, inl, inr, refl, sym, ap, subst, ◌∙◌, ⊎_elim, arith, length-append}
use Rattle.std.specs.Option.{option_map, option_map_or}
use Rattle.std.proofs.lemmas.Bool.{cases_eq}
use Rattle.std.proofs.lemmas.Option.{slice_get_cases}
use Rattle.snap_graph.specs.declared.kind.Kind.TheVariants.{Scope}
use Rattle.snap_graph.specs.declared.kind.ScopeKind.{ScopeKind}
use Rattle.snap_graph.specs.declared.node.Node.{Node}
use Rattle.snap_graph.specs.declared.value.Value.{Value}
use Rattle.snap_graph.specs.declared.value.Value.TheVariants.{Undefined, Null, Bool as Truth, Int, Text, Node as At, Empty}
use Rattle.snap_graph.specs.Lawful.{is_scope}
use Rattle.snap_graph.specs.Values.{IsPlace, IsValue}
use Rattle.spec_scopes.specs.declared.need.ScopeNeed.{ScopeNeed}
use Rattle.spec_scopes.specs.Valid.{Inside, IsChain, IsScriptValue, Outermost, holds_scope}
use Rattle.spec_values.specs.Operations.{changed}
use Rattle.spec_values.proofs.Changes.{changed_elsewhere, changed_here, length-changed}
use Rattle.spec_values.proofs.Keeping.{place_kept}
use Rattle.spec_values.proofs.Made.{read_before}
use Rattle.laws_valid.specs.Leaving.{Stays}

-- each node is there still, with its kind and its prototype, and a scope with as many slots
pub record Grows (nodes after : List Node) : Type 0 where
  pub count : length nodes ≤ length after
  pub each : (number : ℕ) (node : Node) → slice_get nodes number ≡ Some node
      → (now : Node) × (slice_get after number ≡ Some now) × (now.kind ≡ node.kind) × (now.prototype ≡ node.prototype) × ((scope : ScopeKind) → node.kind ≡ Scope scope → length now.elements ≡ length node.elements)

-- a value is no scope
abbrev pub IsNoScope : List Node → Value → Type 0
IsNoScope nodes value = holds_scope nodes value ≡ false

module _ (nodes after : List Node) (grows : Grows nodes after) where
  -- the scopes from a value on are those that were
  pub chain_kept : {value : Value} {needs : List ScopeNeed} → IsChain nodes value needs → IsChain after value needs
  chain_kept Outermost = Outermost
  chain_kept (Inside {number = number} {node = node} {scope = scope} {needs = needs} read is rest) =
      let now = grows.each number node read in
      let round = subst (λ (v : Value). IsChain after v needs) (sym now.3) (chain_kept rest) in
      subst (λ (count : ℕ). IsChain after (At number) (record { kind = scope; slots = count } ∷ needs)) (now.4 scope is) (Inside now.1 (now.2 ∙ is) round)

  -- what is no scope is none still, if it is no number past the nodes
  pub unscoped_kept : (value : Value) → IsPlace (length nodes) value → IsNoScope nodes value → IsNoScope after value
  unscoped_kept Undefined place h = refl
  unscoped_kept Null place h = refl
  unscoped_kept (Truth b) place h = refl
  unscoped_kept (Int z) place h = refl
  unscoped_kept (Text text) place h = refl
  unscoped_kept (At number) (inl empty) h = absurd cc
  unscoped_kept (At number) (inr within) h =
      ⊎_elim
      (λ found.
      let now = grows.each number found.0 found.2 in
      let is_it = λ (it : Option Node). option_map_or (λ (node : Node). is_scope node.kind) it false in
      ap is_it now.1 ∙ ap is_scope now.2 ∙ sym (ap is_it found.2) ∙ h)
      (λ none. absurd (omega (arith, none.0, within)))
      (slice_get_cases nodes number).1
  unscoped_kept Empty place h = refl

  value_kept : (value : Value) → IsScriptValue nodes value → IsScriptValue after value
  value_kept value h =
      (⊎_elim (λ e. absurd (subst (IsValue (length nodes)) e h.0)) (λ more. more) (place_kept (length nodes) (length after) value grows.count (inr h.0)), unscoped_kept value (inr h.0) h.1)

  pub all_stay : Stays nodes after
  all_stay = record { values = value_kept; chains = λ value needs chain. chain_kept chain }

-- one more node
pub more_grows : (nodes : List Node) (x : Node) → Grows nodes (nodes ++ x ∷ [])
more_grows nodes x = record {
  count = omega (arith, length-append nodes (x ∷ []));
  each = λ number node read. (node, read_before nodes x number node read, refl, refl, λ scope is. refl);
}

-- whether a node of a number is a scope
abbrev scope_at : List Node → ℕ → Bool
scope_at nodes number = option_map_or (λ node. is_scope node.kind) (slice_get nodes number) false

more_scopes : (nodes : List Node) (x : Node) (number : ℕ) → is_scope x.kind ≡ false → scope_at nodes number ≡ false → scope_at (nodes ++ x ∷ []) number ≡ false
more_scopes [] x zero is h = is
more_scopes [] x (suc number) is h = refl
more_scopes (first ∷ rest) x zero is h = h
more_scopes (first ∷ rest) x (suc number) is h = more_scopes rest x number is h

-- a value that is no scope is none where one more node is no scope
pub more_unscoped : (nodes : List Node) (x : Node) (value : Value) → is_scope x.kind ≡ false → IsNoScope nodes value → IsNoScope (nodes ++ x ∷ []) value
more_unscoped nodes x Undefined is h = refl
more_unscoped nodes x Null is h = refl
more_unscoped nodes x (Truth b) is h = refl
more_unscoped nodes x (Int z) is h = refl
more_unscoped nodes x (Text text) is h = refl
more_unscoped nodes x (At number) is h = more_scopes nodes x number is h
more_unscoped nodes x Empty is h = refl

module _ (change : Node → Node) (kinds : (node : Node) → (change node).kind ≡ node.kind) where
  -- one node is changed, and no scope gets more or fewer slots
  pub changed_grows : ((node : Node) → (change node).prototype ≡ node.prototype) → (nodes : List Node) (number : ℕ)
      → ((node : Node) (scope : ScopeKind) → slice_get nodes number ≡ Some node → node.kind ≡ Scope scope → length (change node).elements ≡ length node.elements) → Grows nodes (changed change nodes number)
  changed_grows prototypes nodes number slots = record {
    count = omega (arith, length-changed change nodes number);
    each = λ n node read.
        ⊎_elim
        (λ (here : n ≡ number).
        let at = subst (λ (k : ℕ). slice_get nodes k ≡ Some node) here read in
        (change node, subst (λ (k : ℕ). slice_get (changed change nodes number) k ≡ Some (change node)) (sym here) (changed_here change nodes number ∙ ap (option_map change) at), kinds node, prototypes node, λ scope is. slots node scope at is))
        (λ (apart : n ≡ number → ⊥). (node, changed_elsewhere change nodes number n apart ∙ read, refl, refl, λ scope is. refl))
        (cases_eq n number);
  }

  changed_scopes : (nodes : List Node) (number other : ℕ) → scope_at nodes other ≡ false → scope_at (changed change nodes number) other ≡ false
  changed_scopes [] number other h = h
  changed_scopes (node ∷ rest) zero zero h = ap is_scope (kinds node) ∙ h
  changed_scopes (node ∷ rest) zero (suc other) h = h
  changed_scopes (node ∷ rest) (suc number) zero h = h
  changed_scopes (node ∷ rest) (suc number) (suc other) h = changed_scopes rest number other h

  -- a value that is no scope is none where one node is changed
  pub changed_unscoped : (nodes : List Node) (number : ℕ) (value : Value) → IsNoScope nodes value → IsNoScope (changed change nodes number) value
  changed_unscoped nodes number Undefined h = refl
  changed_unscoped nodes number Null h = refl
  changed_unscoped nodes number (Truth b) h = refl
  changed_unscoped nodes number (Int z) h = refl
  changed_unscoped nodes number (Text text) h = refl
  changed_unscoped nodes number (At other) h = changed_scopes nodes number other h
  changed_unscoped nodes number Empty h = refl
