-- Lawful nodes stay lawful where others come or are changed.
use Rattle.std.proofs.Common.{◌≡◌, ℕ, zero, suc, ◌≤◌, inl, inr, List, [], ◌∷◌, length, get_or, slice_get, Option, None, Some, IsSome, is_some, refl, ap, ◌∙◌, ⊎_elim, arith}
use Rattle.std.proofs.lemmas.Bool.{false≢true}
use Rattle.std.specs.Option.{option_and_then, option_map}
use Rattle.snap_graph.specs.declared.kind.Kind.{Kind}
use Rattle.snap_graph.specs.declared.kind.Kind.TheVariants as kind
use Rattle.snap_graph.specs.declared.node.Node.{Node}
use Rattle.snap_graph.specs.declared.value.Value.{Value}
use Rattle.snap_graph.specs.declared.value.Value.TheVariants as value
use Rattle.snap_graph.specs.Lawful.{AreElements, AreRecords, IsLawfulNode, IsPrototype, chain_from, chain_within, is_scope}
use Rattle.snap_graph.specs.Values.{IsPlace, IsValue}

-- each node is there still, with its prototype, and is a scope if it was
pub record Keeps (nodes after : List Node) : Type 0 where
  pub count : length nodes ≤ length after
  pub each : (number : ℕ) (node : Node) → slice_get nodes number ≡ Some node → (now : Node) × (slice_get after number ≡ Some now) × (now.prototype ≡ node.prototype) × (is_scope now.kind ≡ is_scope node.kind)

value_kept : (count more : ℕ) (v : Value) → count ≤ more → IsValue count v → IsValue more v
value_kept count more value.Undefined le h = tt
value_kept count more value.Null le h = tt
value_kept count more (value.Bool b) le h = tt
value_kept count more (value.Int z) le h = h
value_kept count more (value.Text text) le h = tt
value_kept count more (value.Node node) le h = omega arith
value_kept count more value.Empty le h = h

pub place_kept : (count more : ℕ) (v : Value) → count ≤ more → IsPlace count v → IsPlace more v
place_kept count more v le (inl e) = inl e
place_kept count more v le (inr h) = inr (value_kept count more v le h)

records_kept : (count more : ℕ) (elements : List Value) → count ≤ more → AreRecords count elements → AreRecords more elements
records_kept count more [] le h = tt
records_kept count more (key ∷ []) le h = h
records_kept count more (key ∷ held ∷ rest) le h =
    (⊎_elim (λ e. inl e) (λ e. inr (value_kept count more key le e.0, value_kept count more held le e.1)) h.0, records_kept count more rest le h.1)

elements_kept : (count more : ℕ) (own : Kind) (elements : List Value) → count ≤ more → AreElements count own elements → AreElements more own elements
elements_kept count more kind.Plain elements le h = h
elements_kept count more kind.Array elements le h = λ k d within. value_kept count more (get_or elements k d) le (h k d within)
elements_kept count more (kind.Function script tree) elements le h = λ k d within. value_kept count more (get_or elements k d) le (h k d within)
elements_kept count more (kind.Native native) elements le h = h
elements_kept count more (kind.Scope scope) elements le h = λ k d within. place_kept count more (get_or elements k d) le (h k d within)
elements_kept count more kind.Error elements le h = h
elements_kept count more kind.Map elements le h = (records_kept count more elements le h.0, h.1)
elements_kept count more kind.Set elements le h = (λ k d within. place_kept count more (get_or elements k d) le (h.0 k d within), h.1)
elements_kept count more (kind.Resource number closed) elements le h = h

module _ (nodes after : List Node) (keeps : Keeps nodes after) where
  pub prototype_kept : (own : Kind) (v : Value) → IsPrototype nodes own v → IsPrototype after own v
  prototype_kept own value.Undefined h = h
  prototype_kept own value.Null h = tt
  prototype_kept own (value.Bool b) h = h
  prototype_kept own (value.Int z) h = h
  prototype_kept own (value.Text text) h = h
  prototype_kept own (value.Node number) h = let now = keeps.each number h.0 h.1 in (now.0, now.1, now.3 ∙ h.2)
  prototype_kept own value.Empty h = h

  -- what comes behind a step of a chain
  behind : (f : Node → Option (List ℕ)) (found : Option Node) (c : List ℕ) → option_and_then f found ≡ Some c → (node : Node) × (found ≡ Some node) × (f node ≡ Some c)
  behind f None c e = absurd cc
  behind f (Some node) c e = (node, refl, e)

  front : (number : ℕ) (rest : Option (List ℕ)) (c : List ℕ) → option_map (λ (ns : List ℕ). number ∷ ns) rest ≡ Some c → (ns : List ℕ) × (rest ≡ Some ns) × (number ∷ ns ≡ c)
  front number None c e = absurd cc
  front number (Some ns) c e = (ns, refl, cc)

  pub chain_kept : (steps more : ℕ) (v : Value) (c : List ℕ) → steps ≤ more → chain_within nodes steps v ≡ Some c → chain_within after more v ≡ Some c
  chain_kept steps more value.Undefined c le e = absurd cc
  chain_kept steps more value.Null c le e = e
  chain_kept steps more (value.Bool b) c le e = absurd cc
  chain_kept steps more (value.Int z) c le e = absurd cc
  chain_kept steps more (value.Text text) c le e = absurd cc
  chain_kept zero more (value.Node number) c le e = absurd cc
  chain_kept (suc steps) zero (value.Node number) c le e = absurd (omega arith)
  chain_kept (suc steps) (suc more) (value.Node number) c le e =
      let step = behind (λ node. option_map (λ rest. number ∷ rest) (chain_within nodes steps node.prototype)) (slice_get nodes number) c e in
      let rest = front number (chain_within nodes steps step.0.prototype) c step.2 in
      let now = keeps.each number step.0 step.1 in
      let along = λ (node : Node). option_map (λ (ns : List ℕ). number ∷ ns) (chain_within after more node.prototype) in
      ap (option_and_then along) now.1
      ∙ ap (λ (v : Value). option_map (λ (ns : List ℕ). number ∷ ns) (chain_within after more v)) now.2
      ∙ ap (option_map (λ (ns : List ℕ). number ∷ ns)) (chain_kept steps more step.0.prototype rest.0 (omega arith) rest.1)
      ∙ ap Some rest.2
  chain_kept steps more value.Empty c le e = absurd cc

  ends_kept : (v : Value) → IsSome (chain_from nodes v) → IsSome (chain_from after v)
  ends_kept v h = by (chain_from nodes v) refl h
    where
      by : (found : Option (List ℕ)) → chain_from nodes v ≡ found → IsSome found → IsSome (chain_from after v)
      by None e h = absurd (false≢true h)
      by (Some c) e h = ap is_some (chain_kept (length nodes) (length after) v c keeps.count e)

  pub node_kept : (node : Node) → IsLawfulNode nodes node → IsLawfulNode after node
  node_kept node h = record {
    prototype = prototype_kept node.kind node.prototype h.prototype;
    chain = ends_kept node.prototype h.chain;
    keys = h.keys;
    element_keys = h.element_keys;
    values = λ k d within. value_kept (length nodes) (length after) (get_or node.properties k d).value keeps.count (h.values k d within);
    elements = elements_kept (length nodes) (length after) node.kind node.elements keeps.count h.elements;
    native = h.native;
  }
