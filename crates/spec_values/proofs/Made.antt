-- A heap with one more node is a heap.
use Rattle.std.proofs.Common.{◌≡◌, ℕ, zero, suc, ◌≤◌, ◌⊎◌, inl, inr, true, List, [], ◌∷◌, ◌++◌, length, slice_get, Option, None, Some, IsSome, is_some, refl, ap, subst, ◌∙◌, ⊎_elim, arith, length-append, length-take}
use Rattle.std.specs.Option.{option_and_then, option_map}
use Rattle.std.proofs.lemmas.Bool.{false≢true}
use Rattle.std.proofs.lemmas.List.{take-append-le}
use Rattle.std.proofs.lemmas.List.Elements.{All-nil}
use Rattle.std.proofs.lemmas.Option.{get_or_from_slice_get, slice_get_within}
use Rattle.snap_graph.specs.declared.kind.Kind.{Kind}
use Rattle.snap_graph.specs.declared.kind.Kind.TheVariants as kind
use Rattle.snap_graph.specs.declared.node.Node.{Node}
use Rattle.snap_graph.specs.declared.value.Property.{Property}
use Rattle.snap_graph.specs.declared.value.Value.{Value}
use Rattle.snap_graph.specs.declared.value.Value.TheVariants as value
use Rattle.snap_graph.specs.Intrinsics.{IsNative}
use Rattle.snap_graph.specs.Lawful.{AreElements, IsElementKey, IsLawful, IsLawfulNode, IsPrototype, chain_from, chain_within}
use Rattle.snap_graph.specs.Values.{IsPlace, IsValue}
use Rattle.snap_graph.proofs.Fitting.{intrinsic_count}
use Rattle.spec_values.specs.Operations.{new_node}
use Rattle.spec_values.proofs.Changes.{all_read}
use Rattle.spec_values.proofs.Keeping.{Keeps, chain_kept, node_kept, prototype_kept}

-- a node is read as before where one more stands behind, and that one is read at its number
pub read_before : (nodes : List Node) (x : Node) (number : ℕ) (node : Node) → slice_get nodes number ≡ Some node → slice_get (nodes ++ x ∷ []) number ≡ Some node
read_before [] x number node e = absurd cc
read_before (first ∷ rest) x zero node e = e
read_before (first ∷ rest) x (suc number) node e = read_before rest x number node e

read_more : (nodes : List Node) (x : Node) (number : ℕ) (node : Node) → slice_get (nodes ++ x ∷ []) number ≡ Some node → (slice_get nodes number ≡ Some node) ⊎ (x ≡ node)
read_more [] x zero node e = inr cc
read_more [] x (suc number) node e = absurd cc
read_more (first ∷ rest) x zero node e = inl e
read_more (first ∷ rest) x (suc number) node e = read_more rest x number node e

pub more_kept : (nodes : List Node) (x : Node) → Keeps nodes (nodes ++ x ∷ [])
more_kept nodes x = record {
  count = omega (arith, length-append nodes (x ∷ []));
  each = λ number node e. (node, read_before nodes x number node e, refl, refl);
}

pub no_elements : (count : ℕ) (own : Kind) → AreElements count own []
no_elements count kind.Plain = refl
no_elements count kind.Array = All-nil (IsValue count)
no_elements count (kind.Function script tree) = All-nil (IsValue count)
no_elements count (kind.Native native) = refl
no_elements count (kind.Scope scope) = All-nil (IsPlace count)
no_elements count kind.Error = refl
no_elements count kind.Map = (tt, λ i j d below within. absurd (omega arith))
no_elements count kind.Set = (All-nil (IsPlace count), λ i j d below within. absurd (omega arith))
no_elements count (kind.Resource number closed) = refl

-- the intrinsics are among the nodes
pub enough : (nodes : List Node) → IsLawful nodes → 62 ≤ length nodes
enough nodes lawful = omega (arith, ap length lawful.intrinsics, intrinsic_count, length-take 62 nodes)

pub lawful_at : (nodes : List Node) → IsLawful nodes → (number : ℕ) (node : Node) → slice_get nodes number ≡ Some node → IsLawfulNode nodes node
lawful_at nodes lawful number node e =
    subst (IsLawfulNode nodes) (get_or_from_slice_get nodes number node node e) (lawful.each number node (slice_get_within nodes number node e))

-- a chain from a prototype ends among one node more
ends : (nodes : List Node) (x : Node) (own : Kind) (v : Value) → IsLawful nodes → IsPrototype nodes own v → IsSome (chain_from (nodes ++ x ∷ []) v)
ends nodes x own value.Undefined lawful h = absurd h
ends nodes x own value.Null lawful h = refl
ends nodes x own (value.Bool b) lawful h = absurd h
ends nodes x own (value.Int z) lawful h = absurd h
ends nodes x own (value.Text text) lawful h = absurd h
ends nodes x own (value.Node number) lawful h =
    by (chain_from nodes h.0.prototype) refl (lawful_at nodes lawful number h.0 h.1).chain
  where
    by : (found : Option (List ℕ)) → chain_from nodes h.0.prototype ≡ found → IsSome found → IsSome (chain_from (nodes ++ x ∷ []) (value.Node number))
    by None e some = absurd (false≢true some)
    by (Some c) e some =
        let after = nodes ++ x ∷ [] in
        let count : suc (length nodes) ≡ length after = omega (arith, length-append nodes (x ∷ [])) in
        let along = λ (node : Node). option_map (λ (ns : List ℕ). number ∷ ns) (chain_within after (length nodes) node.prototype) in
        let chain : chain_within after (suc (length nodes)) (value.Node number) ≡ Some (number ∷ c) =
        ap (option_and_then along) (read_before nodes x number h.0 h.1) ∙ ap (option_map (λ (ns : List ℕ). number ∷ ns)) (chain_kept nodes after (more_kept nodes x) (length nodes) (length nodes) h.0.prototype c (omega arith) e) in
        subst (λ (k : ℕ). is_some (chain_within after k (value.Node number)) ≡ true) count (ap is_some chain)
ends nodes x own value.Empty lawful h = absurd h

-- a node that is made is lawful
new_lawful : (nodes : List Node) (own : Kind) (v : Value) → IsLawful nodes → IsPrototype nodes own v → ((number : ℕ) → own ≡ kind.Native number → IsNative number)
    → IsLawfulNode (nodes ++ new_node own v ∷ []) (new_node own v)
new_lawful nodes own v lawful h native =
    let after = nodes ++ new_node own v ∷ [] in
    record {
      prototype = prototype_kept nodes after (more_kept nodes (new_node own v)) own v h;
      chain = ends nodes (new_node own v) own v lawful h;
      keys = λ i j d below within. absurd (omega arith);
      element_keys = λ e. All-nil (λ (p : Property). IsElementKey p.key → ⊥);
      values = All-nil (λ (p : Property). IsValue (length after) p.value);
      elements = no_elements (length after) own;
      native = native;
    }

pub made_lawful : (nodes : List Node) (own : Kind) (v : Value) → IsLawful nodes → IsPrototype nodes own v → ((number : ℕ) → own ≡ kind.Native number → IsNative number)
    → IsLawful (nodes ++ new_node own v ∷ [])
made_lawful nodes own v lawful h native =
    let x = new_node own v in
    let after = nodes ++ x ∷ [] in
    record {
      intrinsics = take-append-le 62 nodes (x ∷ []) (enough nodes lawful) ∙ lawful.intrinsics;
      each = all_read (IsLawfulNode after) after (λ number node e.
          ⊎_elim
          (λ (before : slice_get nodes number ≡ Some node). node_kept nodes after (more_kept nodes x) node (lawful_at nodes lawful number node before))
          (λ (new : x ≡ node). subst (IsLawfulNode after) new (new_lawful nodes own v lawful h native))
          (read_more nodes x number node e));
    }
