-- What a lawful node holds may stand in a place.
use Rattle.std.proofs.Common.{◌≡◌, ◌≢◌, ℕ, zero, suc, ◌<◌, inl, inr, ⊎_elim, AllPairs, List, [], ◌∷◌, length, map, get_or, slice_get, Option, None, Some, IfSome, sym, ap, subst, ◌∙◌, arith}
use Rattle.std.proofs.lemmas.List.{length-map}
use Rattle.std.proofs.lemmas.Option.{get_or_from_slice_get, slice_get_within}
use Rattle.std.proofs.Math.ListN.{get_or-map}
use Rattle.snap_graph.specs.declared.kind.Kind.{Kind}
use Rattle.snap_graph.specs.declared.kind.Kind.TheVariants as kind
use Rattle.snap_graph.specs.declared.node.Node.{Node}
use Rattle.snap_graph.specs.declared.value.Property.{Property}
use Rattle.snap_graph.specs.declared.value.Value.{Value}
use Rattle.snap_graph.specs.declared.value.Value.TheVariants as value
use Rattle.snap_graph.specs.Lawful.{AreElements, AreRecords, IsLawfulNode, IsPrototype}
use Rattle.snap_graph.specs.Values.{IsPlace, IsValue}
use Rattle.snap_store.specs.declared.plain_node.PlainNode.{PlainNode}
use Rattle.snap_store.specs.declared.plain_node.PlainProperty.{PlainProperty}
use Rattle.snap_store.specs.declared.plain_node.PlainValue.{PlainValue}
use Rattle.snap_store.specs.Plain.{IsNodeWithin, IsOwn, IsWithin, node_in, property_in, value_in}

nothing_at : (elements : List Value) (k : ℕ) → elements ≡ [] → k < length elements → ⊥
nothing_at [] k e within = omega arith
nothing_at (v ∷ vs) k e within = absurd cc

record_place : (count : ℕ) (elements : List Value) → AreRecords count elements → (k : ℕ) (d : Value) → k < length elements → IsPlace count (get_or elements k d)
record_place count [] h k d within = absurd (omega arith)
record_place count (key ∷ []) h k d within = absurd h
record_place count (key ∷ held ∷ rest) h zero d within = ⊎_elim (λ e. inl e.0) (λ e. inr e.0) h.0
record_place count (key ∷ held ∷ rest) h (suc zero) d within = ⊎_elim (λ e. inl e.1) (λ e. inr e.1) h.0
record_place count (key ∷ held ∷ rest) h (suc (suc k)) d within = record_place count rest h.1 k d (omega arith)

element_place : (count : ℕ) (own : Kind) (elements : List Value) → AreElements count own elements → (k : ℕ) (d : Value) → k < length elements → IsPlace count (get_or elements k d)
element_place count kind.Plain elements h k d within = absurd (nothing_at elements k h within)
element_place count kind.Array elements h k d within = inr (h k d within)
element_place count (kind.Function script tree) elements h k d within = inr (h k d within)
element_place count (kind.Native native) elements h k d within = absurd (nothing_at elements k h within)
element_place count (kind.Scope scope) elements h k d within = h k d within
element_place count kind.Error elements h k d within = absurd (nothing_at elements k h within)
element_place count kind.Map elements h k d within = record_place count elements h.0 k d within
element_place count kind.Set elements h k d within = h.0 k d within
element_place count (kind.Resource number closed) elements h k d within = absurd (nothing_at elements k h within)

prototype_place : (nodes : List Node) (own : Kind) (v : Value) → IsPrototype nodes own v → IsPlace (length nodes) v
prototype_place nodes own value.Undefined h = absurd h
prototype_place nodes own value.Null h = inr tt
prototype_place nodes own (value.Bool b) h = absurd h
prototype_place nodes own (value.Int z) h = absurd h
prototype_place nodes own (value.Text text) h = absurd h
prototype_place nodes own (value.Node number) h = inr (slice_get_within nodes number h.0 h.1)
prototype_place nodes own value.Empty h = absurd h

module _ (texts : List (List ℕ)) (nodes : List Node) (node : PlainNode) (lawful : IsLawfulNode nodes (node_in texts node)) (within : IsNodeWithin texts node) where
  pub owns_prototype : IsOwn texts (length nodes) node.prototype
  owns_prototype = (within.prototype, prototype_place nodes node.kind (value_in texts node.prototype) lawful.prototype)

  pub owns_element : (k : ℕ) (held : PlainValue) → k < length node.elements.items → held ≡ get_or node.elements.items k held → IsOwn texts (length nodes) held
  owns_element k held below at = (
    subst (IsWithin texts) (sym at) (within.elements k held below),
    subst (λ (v : PlainValue). IsPlace (length nodes) (value_in texts v)) (sym at)
        (subst (IsPlace (length nodes)) (get_or-map (value_in texts) node.elements.items k held)
        (element_place (length nodes) node.kind (map (value_in texts) node.elements.items) lawful.elements k (value_in texts held) (omega (arith, length-map node.elements.items (value_in texts))))),
  )

  pub owns_property : (k : ℕ) (property : PlainProperty) → k < length node.properties.items → property ≡ get_or node.properties.items k property → IsOwn texts (length nodes) property.value
  owns_property k property below at = (
    subst (λ (p : PlainProperty). IsWithin texts p.value) (sym at) (within.properties k property below),
    inr (subst (λ (p : PlainProperty). IsValue (length nodes) (value_in texts p.value)) (sym at)
        (subst (λ (p : Property). IsValue (length nodes) p.value) (get_or-map (property_in texts) node.properties.items k property)
        (lawful.values k (property_in texts property) (omega (arith, length-map node.properties.items (property_in texts)))))),
  )

  -- no two properties have one key
  pub keys_apart : AllPairs (λ one other. one.key ≢ other.key) node.properties.items
  keys_apart i j d before below e =
      lawful.keys i j (property_in texts d) before (omega (arith, length-map node.properties.items (property_in texts)))
      (ap (λ (p : Property). p.key) (get_or-map (property_in texts) node.properties.items i d) ∙ e ∙ sym (ap (λ (p : Property). p.key) (get_or-map (property_in texts) node.properties.items j d)))

  pub owns_read : (count k : ℕ) (o : Option PlainValue) → count ≡ length nodes → o ≡ slice_get node.elements.items k → IfSome o (IsOwn texts count)
  owns_read count k None e read = tt
  owns_read count k (Some held) e read =
      subst (λ (n : ℕ). IsOwn texts n held) (sym e)
      (owns_element k held (slice_get_within node.elements.items k held (sym read)) (sym (get_or_from_slice_get node.elements.items k held held (sym read))))
