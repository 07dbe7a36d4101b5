-- Elements, frozen marks and closed resources of a heap after one operation.
use Rattle.std.proofs.Common.{◌≡◌, ℕ, ◌-◌, ◌≤◌, ◌⊎◌, inl, inr, Bool, true, false, List, [], ◌∷◌, ◌++◌, length, take, slice_get, Some, refl, sym, ap, subst, ◌∙◌}
use Rattle.std.specs.List.{slice_set}
use Rattle.std.proofs.lemmas.List.Elements.{All-push, All-set, All-take}
use Rattle.snap_graph.specs.declared.kind.Kind.{Kind}
use Rattle.snap_graph.specs.declared.kind.Kind.TheVariants as kind
use Rattle.snap_graph.specs.declared.node.Node.{Node}
use Rattle.snap_graph.specs.declared.value.Property.{Property}
use Rattle.snap_graph.specs.declared.value.Value.{Value}
use Rattle.snap_graph.specs.declared.value.Value.TheVariants as value
use Rattle.snap_graph.specs.Lawful.{AreElements, IsElementKey, IsLawful, IsLawfulNode, IsPrototype, is_scope}
use Rattle.snap_graph.specs.Values.{IsPlace, IsValue}
use Rattle.snap_graph.proofs.Fitting.{is_fixed}
use Rattle.spec_values.specs.Operations.{MayHold, changed, closed_kind, closed_node, frozen_node, put_under, remove_under, with_closed, with_element, with_elements, with_fewer, with_frozen, with_more, with_own, with_properties, without_own}
use Rattle.spec_values.proofs.Altered.{Alters, altered, past_fixed, past_frozen}
use Rattle.spec_values.proofs.Holding.{put_lawful, removed_lawful}

-- a node that may hold a value is past the intrinsics
holder_past : (nodes : List Node) (number : ℕ) (node : Node) (count : ℕ) (v : Value) → IsLawful nodes → slice_get nodes number ≡ Some node → MayHold count node.kind node.frozen v → 62 ≤ number
holder_past nodes number node count v lawful e h = by node.kind refl h
  where
    by : (own : Kind) → node.kind ≡ own → MayHold count own node.frozen v → 62 ≤ number
    by kind.Plain k h = absurd h
    by kind.Array k h = past_frozen nodes number node lawful e h.0
    by (kind.Function script tree) k h = past_fixed nodes number node lawful e (ap is_fixed k)
    by (kind.Native native) k h = absurd h
    by (kind.Scope scope) k h = past_fixed nodes number node lawful e (ap is_fixed k)
    by kind.Error k h = absurd h
    by kind.Map k h = absurd h
    by kind.Set k h = absurd h
    by (kind.Resource resource closed) k h = absurd h

-- elements of which one is written, and elements with one more
set_kept : (count : ℕ) (own : Kind) (frozen : Bool) (elements : List Value) (place : ℕ) (v : Value) → MayHold count own frozen v → AreElements count own elements → AreElements count own (slice_set elements place v)
set_kept count kind.Plain frozen elements place v may h = absurd may
set_kept count kind.Array frozen elements place v may h = All-set (IsValue count) elements place v may.1 h
set_kept count (kind.Function script tree) frozen elements place v may h = All-set (IsValue count) elements place v may h
set_kept count (kind.Native native) frozen elements place v may h = absurd may
set_kept count (kind.Scope scope) frozen elements place v may h = All-set (IsPlace count) elements place v may h
set_kept count kind.Error frozen elements place v may h = absurd may
set_kept count kind.Map frozen elements place v may h = absurd may
set_kept count kind.Set frozen elements place v may h = absurd may
set_kept count (kind.Resource number closed) frozen elements place v may h = absurd may

push_kept : (count : ℕ) (own : Kind) (frozen : Bool) (elements : List Value) (v : Value) → MayHold count own frozen v → AreElements count own elements → AreElements count own (elements ++ v ∷ [])
push_kept count kind.Plain frozen elements v may h = absurd may
push_kept count kind.Array frozen elements v may h = All-push (IsValue count) elements v h may.1
push_kept count (kind.Function script tree) frozen elements v may h = All-push (IsValue count) elements v h may
push_kept count (kind.Native native) frozen elements v may h = absurd may
push_kept count (kind.Scope scope) frozen elements v may h = All-push (IsPlace count) elements v h may
push_kept count kind.Error frozen elements v may h = absurd may
push_kept count kind.Map frozen elements v may h = absurd may
push_kept count kind.Set frozen elements v may h = absurd may
push_kept count (kind.Resource number closed) frozen elements v may h = absurd may

-- a node with other elements of its kind
elements_lawful : (nodes : List Node) (node : Node) (change : List Value → List Value) → IsLawfulNode nodes node → AreElements (length nodes) node.kind (change node.elements) → IsLawfulNode nodes (with_elements change node)
elements_lawful nodes node change h elements = record { prototype = h.prototype; chain = h.chain; keys = h.keys; element_keys = h.element_keys; values = h.values; elements = elements; native = h.native }

-- what the changes leave
properties_alter : (change : List Property → List Property) → Alters (with_properties change)
properties_alter change = record { prototype = λ node. refl; scope = λ node. refl }

elements_alter : (change : List Value → List Value) → Alters (with_elements change)
elements_alter change = record { prototype = λ node. refl; scope = λ node. refl }

frozen_alters : Alters frozen_node
frozen_alters = record { prototype = λ node. refl; scope = λ node. refl }

closed_scope : (own : Kind) → is_scope (closed_kind own) ≡ is_scope own
closed_scope kind.Plain = refl
closed_scope kind.Array = refl
closed_scope (kind.Function script tree) = refl
closed_scope (kind.Native native) = refl
closed_scope (kind.Scope scope) = refl
closed_scope kind.Error = refl
closed_scope kind.Map = refl
closed_scope kind.Set = refl
closed_scope (kind.Resource number closed) = refl

-- a prototype serves each node that is a scope alike
prototype_as : (nodes : List Node) (own other : Kind) (v : Value) → is_scope own ≡ is_scope other → IsPrototype nodes own v → IsPrototype nodes other v
prototype_as nodes own other value.Undefined e h = h
prototype_as nodes own other value.Null e h = tt
prototype_as nodes own other (value.Bool b) e h = h
prototype_as nodes own other (value.Int z) e h = h
prototype_as nodes own other (value.Text text) e h = h
prototype_as nodes own other (value.Node number) e h = (h.0, h.1, h.2 ∙ e)
prototype_as nodes own other value.Empty e h = h

closed_alters : Alters closed_node
closed_alters = record { prototype = λ node. refl; scope = λ node. closed_scope node.kind }

-- the node of a number is the one that was read
same_node : (nodes : List Node) (number : ℕ) (node other : Node) → slice_get nodes number ≡ Some node → slice_get nodes number ≡ Some other → node ≡ other
same_node nodes number node other e f = cc

module _ (nodes : List Node) (number : ℕ) (node : Node) (lawful : IsLawful nodes) (at : slice_get nodes number ≡ Some node) where
  -- one node is changed to a lawful one
  at_node : (change : Node → Node) → Alters change → (62 ≤ number) ⊎ (change node ≡ node) → (IsLawfulNode nodes node → IsLawfulNode nodes (change node)) → IsLawful (changed change nodes number)
  at_node change alters past keeps =
      altered change alters nodes number lawful
      (λ other e. subst (λ (n : Node). (62 ≤ number) ⊎ (change n ≡ n)) (same_node nodes number node other at e) past)
      (λ other e. subst (λ (n : Node). IsLawfulNode nodes n → IsLawfulNode nodes (change n)) (same_node nodes number node other at e) keeps)

  pub with_own_lawful : (key : List ℕ) (v : Value) → node.frozen ≡ false → IsValue (length nodes) v → (node.kind ≡ kind.Array → IsElementKey key → ⊥) → IsLawful (with_own nodes number key v)
  with_own_lawful key v loose is_value free =
      at_node (with_properties (put_under key v)) (properties_alter (put_under key v)) (inl (past_frozen nodes number node lawful at loose)) (λ h. put_lawful nodes node key v h is_value free)

  pub without_own_lawful : (key : List ℕ) → node.frozen ≡ false → IsLawful (without_own nodes number key)
  without_own_lawful key loose =
      at_node (with_properties (remove_under key)) (properties_alter (remove_under key)) (inl (past_frozen nodes number node lawful at loose)) (λ h. removed_lawful nodes node key h)

  pub with_element_lawful : (place : ℕ) (v : Value) → MayHold (length nodes) node.kind node.frozen v → IsLawful (with_element nodes number place v)
  with_element_lawful place v may =
      at_node (with_elements (λ elements. slice_set elements place v)) (elements_alter (λ elements. slice_set elements place v)) (inl (holder_past nodes number node (length nodes) v lawful at may))
      (λ h. elements_lawful nodes node (λ elements. slice_set elements place v) h (set_kept (length nodes) node.kind node.frozen node.elements place v may h.elements))

  pub with_more_lawful : (v : Value) → MayHold (length nodes) node.kind node.frozen v → IsLawful (with_more nodes number v)
  with_more_lawful v may =
      at_node (with_elements (λ elements. elements ++ v ∷ [])) (elements_alter (λ elements. elements ++ v ∷ [])) (inl (holder_past nodes number node (length nodes) v lawful at may))
      (λ h. elements_lawful nodes node (λ elements. elements ++ v ∷ []) h (push_kept (length nodes) node.kind node.frozen node.elements v may h.elements))

  fewer_kept : (own : Kind) → own ≡ kind.Array → AreElements (length nodes) own node.elements → AreElements (length nodes) own (take (length node.elements - 1) node.elements)
  fewer_kept own e h = subst (λ (k : Kind). AreElements (length nodes) k (take (length node.elements - 1) node.elements)) (sym e) (All-take (IsValue (length nodes)) (length node.elements - 1) node.elements (subst (λ (k : Kind). AreElements (length nodes) k node.elements) e h))

  pub with_fewer_lawful : node.kind ≡ kind.Array → node.frozen ≡ false → IsLawful (with_fewer nodes number)
  with_fewer_lawful is_array loose =
      at_node (with_elements (λ elements. take (length elements - 1) elements)) (elements_alter (λ elements. take (length elements - 1) elements)) (inl (past_frozen nodes number node lawful at loose))
      (λ h. elements_lawful nodes node (λ elements. take (length elements - 1) elements) h (fewer_kept node.kind is_array h.elements))

  frozen_past : (b : Bool) → node.frozen ≡ b → (62 ≤ number) ⊎ (frozen_node node ≡ node)
  frozen_past true e = inr (ap (λ (f : Bool). record { kind = node.kind; prototype = node.prototype; frozen = f; properties = node.properties; elements = node.elements }) (sym e))
  frozen_past false e = inl (past_frozen nodes number node lawful at e)

  pub with_frozen_lawful : IsLawful (with_frozen nodes number)
  with_frozen_lawful =
      at_node frozen_node frozen_alters (frozen_past node.frozen refl)
      (λ h. record { prototype = h.prototype; chain = h.chain; keys = h.keys; element_keys = h.element_keys; values = h.values; elements = h.elements; native = h.native })

  pub with_closed_lawful : (resource : ℕ) (closed : Bool) → node.kind ≡ kind.Resource resource closed → IsLawful (with_closed nodes number)
  with_closed_lawful resource closed e =
      let now : closed_kind node.kind ≡ kind.Resource resource true = ap closed_kind e in
      at_node closed_node closed_alters (inl (past_fixed nodes number node lawful at (ap is_fixed e)))
      (λ h. record {
        prototype = prototype_as nodes node.kind (closed_kind node.kind) node.prototype (sym (closed_scope node.kind)) h.prototype;
        chain = h.chain;
        keys = h.keys;
        element_keys = λ f. absurd cc;
        values = h.values;
        elements = subst (λ (k : Kind). AreElements (length nodes) k node.elements) (sym now) (subst (λ (k : Kind). AreElements (length nodes) k node.elements) e h.elements);
        native = λ n f. absurd cc;
      })
