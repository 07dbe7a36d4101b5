-- A heap matches itself.
use Rattle.std.proofs.Common.{◌≡◌, ℕ, ◌<◌, ◌≤◌, true, false, nat_lt, if◌then◌else◌, inl, inr, All, List, [], ◌∷◌, length, map, get_or, slice_get, Option, None, Some, refl, sym, ap, subst, ◌∙◌, ⊎_elim, arith, length-take}
use Rattle.std.specs.List.{AllByRecursion, AllZip, range_with_len}
use Rattle.std.specs.Option.{option_and_then, option_map_or}
use Rattle.std.proofs.lemmas.List.Elements.{All-append, All-head, All-tail, All-nil, All-cons, All-from_recursion}
use Rattle.std.proofs.lemmas.List.FromFn.{get_or-map-range_with_len, length-map-range_with_len}
use Rattle.std.proofs.lemmas.Option.{get_or_from_slice_get, slice_get_cases, slice_get_within}
use Rattle.snap_graph.specs.declared.kind.Kind.{Kind}
use Rattle.snap_graph.specs.declared.kind.Kind.TheVariants as kind
use Rattle.snap_graph.specs.declared.node.Node.{Node}
use Rattle.snap_graph.specs.declared.pairing.Pair.{Pair}
use Rattle.snap_graph.specs.declared.value.Property.{Property}
use Rattle.snap_graph.specs.declared.value.Value.{Value}
use Rattle.snap_graph.specs.declared.value.Value.TheVariants as value
use Rattle.snap_graph.specs.Lawful.{AreElements, AreRecords, IsLawful, IsLawfulNode, IsPrototype}
use Rattle.snap_graph.specs.Matching.{Agree, ArePaired, IsPairOf, Matches, NodesAgree, PropertiesAgree}
use Rattle.snap_graph.specs.OwnKeys.{key_rank, own_order, put_in_order}
use Rattle.snap_graph.specs.Paths.{IsReachable, edges, edges_of, led_to, path_value}
use Rattle.snap_graph.specs.Values.{IsPlace, IsValue, node_of}
use Rattle.snap_graph.proofs.Fitting.{intrinsic_count}

-- each number below a count, paired with itself
own_pair : ℕ → Pair
own_pair n = record { first = n; second = n }

pub mirror : ℕ → List Pair
mirror count = map own_pair (range_with_len 0 count)

mirror_at : (count i : ℕ) (d : Pair) → i < count → get_or (mirror count) i d ≡ record { first = i; second = i }
unfolding mirror own_pair
mirror_at count i d h = get_or-map-range_with_len own_pair 0 count i i d h (omega arith)

mirror_length : (count : ℕ) → length (mirror count) ≡ count
unfolding mirror
mirror_length count = length-map-range_with_len own_pair 0 count

mirrored : (count n : ℕ) → n < count → ArePaired (mirror count) n n
mirrored count n h = (n, omega (arith, mirror_length count), mirror_at count n (record { first = n; second = n }) h)

-- what a place holds agrees with itself
place_agrees : (count : ℕ) (v : Value) → IsPlace count v → Agree (mirror count) v v
place_agrees count v (inl empty) = subst (λ u. Agree (mirror count) u u) (sym empty) refl
place_agrees count value.Undefined (inr h) = refl
place_agrees count value.Null (inr h) = refl
place_agrees count (value.Bool b) (inr h) = refl
place_agrees count (value.Int z) (inr h) = refl
place_agrees count (value.Text text) (inr h) = refl
place_agrees count (value.Node node) (inr h) = mirrored count node h
place_agrees count value.Empty (inr h) = absurd h

-- all that a heap's nodes hold are places among its nodes
prototype_place : (nodes : List Node) (kind : Kind) (v : Value) → IsPrototype nodes kind v → IsPlace (length nodes) v
prototype_place nodes kind value.Undefined h = absurd h
prototype_place nodes kind value.Null h = inr tt
prototype_place nodes kind (value.Bool b) h = absurd h
prototype_place nodes kind (value.Int z) h = absurd h
prototype_place nodes kind (value.Text text) h = absurd h
prototype_place nodes kind (value.Node number) h = inr (slice_get_within nodes number h.0 h.1)
prototype_place nodes kind value.Empty h = absurd h

records_place : (count : ℕ) (elements : List Value) → AreRecords count elements → All (IsPlace count) elements
records_place count [] h = All-nil (IsPlace count)
records_place count (key ∷ []) h = absurd h
records_place count (key ∷ held ∷ rest) h =
    let rest_place = records_place count rest h.1 in
    ⊎_elim
    (λ e. All-cons (IsPlace count) key (held ∷ rest) (inl e.0) (All-cons (IsPlace count) held rest (inl e.1) rest_place))
    (λ e. All-cons (IsPlace count) key (held ∷ rest) (inr e.0) (All-cons (IsPlace count) held rest (inr e.1) rest_place))
    h.0

no_place : (count : ℕ) (elements : List Value) → elements ≡ [] → All (IsPlace count) elements
no_place count elements e = subst (All (IsPlace count)) (sym e) (All-nil (IsPlace count))

values_place : (count : ℕ) (elements : List Value) → All (IsValue count) elements → All (IsPlace count) elements
values_place count elements h = λ k d within. inr (h k d within)

elements_place : (count : ℕ) (own : Kind) (elements : List Value) → AreElements count own elements → All (IsPlace count) elements
elements_place count kind.Plain elements h = no_place count elements h
elements_place count kind.Array elements h = values_place count elements h
elements_place count (kind.Function script tree) elements h = values_place count elements h
elements_place count (kind.Native native) elements h = no_place count elements h
elements_place count (kind.Scope scope) elements h = h
elements_place count kind.Error elements h = no_place count elements h
elements_place count kind.Map elements h = records_place count elements h.0
elements_place count kind.Set elements h = h.0
elements_place count (kind.Resource number closed) elements h = no_place count elements h

-- a lawful node agrees with itself
elements_agree : (count : ℕ) (elements : List Value) → All (IsPlace count) elements → AllZip (Agree (mirror count)) elements elements
elements_agree count [] h = tt
elements_agree count (v ∷ rest) h = (place_agrees count v (All-head (IsPlace count) v rest h), elements_agree count rest (All-tail (IsPlace count) v rest h))

properties_agree : (count : ℕ) (properties : List Property) → All (λ p. IsValue count p.value) properties → AllZip (PropertiesAgree (mirror count)) properties properties
properties_agree count [] h = tt
properties_agree count (p ∷ rest) h =
    ((refl, place_agrees count p.value (inr (All-head (λ q. IsValue count q.value) p rest h))), properties_agree count rest (All-tail (λ q. IsValue count q.value) p rest h))

node_agrees : (nodes : List Node) (node : Node) → IsLawfulNode nodes node → NodesAgree (mirror (length nodes)) node node
node_agrees nodes node h = record {
  kind = refl;
  frozen = refl;
  prototype = place_agrees (length nodes) node.prototype (prototype_place nodes node.kind node.prototype h.prototype);
  properties = properties_agree (length nodes) node.properties h.values;
  elements = elements_agree (length nodes) node.elements (elements_place (length nodes) node.kind node.elements h.elements);
}

-- the values of properties stay places in own-key order
put_places : (count : ℕ) (property : Property) (properties : List Property) → IsPlace count property.value → AllByRecursion (IsPlace count) (map (λ p. p.value) properties)
    → AllByRecursion (IsPlace count) (map (λ p. p.value) (put_in_order property properties))
put_places count property [] v h = (v, tt)
put_places count property (first ∷ rest) v h =
    let more = put_places count property rest v h.1 in
    elim (nat_lt (key_rank first.key) (key_rank property.key)) as (λ b. AllByRecursion (IsPlace count) (map (λ p. p.value) (if b then first ∷ put_in_order property rest else property ∷ first ∷ rest)))
    [ true ↦ (h.0, more) | false ↦ (v, h) ]

own_places : (count : ℕ) (properties : List Property) → All (λ p. IsValue count p.value) properties → AllByRecursion (IsPlace count) (map (λ p. p.value) (own_order properties))
own_places count [] h = tt
own_places count (p ∷ rest) h =
    put_places count p (own_order rest) (inr (All-head (λ q. IsValue count q.value) p rest h)) (own_places count rest (All-tail (λ q. IsValue count q.value) p rest h))

edge_places : (nodes : List Node) (node : Node) → IsLawfulNode nodes node → All (IsPlace (length nodes)) (edges node)
edge_places nodes node h =
    All-append (IsPlace (length nodes)) (node.prototype ∷ map (λ p. p.value) (own_order node.properties)) node.elements
    (All-from_recursion (IsPlace (length nodes)) (node.prototype ∷ map (λ p. p.value) (own_order node.properties)) (prototype_place nodes node.kind node.prototype h.prototype, own_places (length nodes) node.properties h.values))
    (elements_place (length nodes) node.kind node.elements h.elements)

module _ (nodes : List Node) (lawful : IsLawful nodes) where
  node_lawful : (number : ℕ) (node : Node) → slice_get nodes number ≡ Some node → IsLawfulNode nodes node
  node_lawful number node e =
      subst (IsLawfulNode nodes) (get_or_from_slice_get nodes number node node e) (lawful.each number node (slice_get_within nodes number node e))

  -- what stands at a place is a place
  read_place : (values : List Value) (i : ℕ) (v : Value) → All (IsPlace (length nodes)) values → slice_get values i ≡ Some v → IsPlace (length nodes) v
  read_place values i v h e = subst (IsPlace (length nodes)) (get_or_from_slice_get values i v v e) (h i v (slice_get_within values i v e))

  edges_of_place : (number : Option ℕ) → All (IsPlace (length nodes)) (option_map_or edges (option_and_then (slice_get nodes) number) [])
  edges_of_place None = All-nil (IsPlace (length nodes))
  edges_of_place (Some number) = by (slice_get nodes number) refl
    where
      by : (found : Option Node) → slice_get nodes number ≡ found → All (IsPlace (length nodes)) (option_map_or edges found [])
      by None e = All-nil (IsPlace (length nodes))
      by (Some node) e = edge_places nodes node (node_lawful number node e)

  stepped : (f : Value → Option Value) (found : Option Value) (v : Value) → option_and_then f found ≡ Some v → (u : Value) × (found ≡ Some u) × (f u ≡ Some v)
  stepped f None v e = absurd cc
  stepped f (Some u) v e = (u, refl, e)

  led_place : (path : List ℕ) (from v : Value) → IsPlace (length nodes) from → led_to nodes path from ≡ Some v → IsPlace (length nodes) v
  led_place [] from v h e = let same : from ≡ v = cc in subst (IsPlace (length nodes)) same h
  led_place (edge ∷ rest) from v h e =
      let step = stepped (led_to nodes rest) (slice_get (edges_of nodes from) edge) v e in
      led_place rest step.0 v (read_place (edges_of nodes from) edge step.0 (edges_of_place (node_of from)) step.1) step.2

  path_place : (roots : List Value) (path : List ℕ) (v : Value) → All (IsValue (length nodes)) roots → path_value nodes roots path ≡ Some v → IsPlace (length nodes) v
  path_place roots [] v h e = absurd cc
  path_place roots (root ∷ rest) v h e =
      let step = stepped (led_to nodes rest) (slice_get roots root) v e in
      led_place rest step.0 v (read_place roots root step.0 (values_place (length nodes) roots h) step.1) step.2

  -- a node that is reached is one of the nodes
  within_nodes : (number : ℕ) → IsPlace (length nodes) (value.Node number) → number < length nodes
  within_nodes number (inl e) = absurd cc
  within_nodes number (inr h) = h

  reached_self : (roots : List Value) → All (IsValue (length nodes)) roots → (number : ℕ) → IsReachable nodes roots number → ArePaired (mirror (length nodes)) number number
  reached_self roots h number reach = mirrored (length nodes) number (within_nodes number (path_place roots reach.0 (value.Node number) h reach.1))

  enough : 62 ≤ length nodes
  enough = omega (arith, ap length lawful.intrinsics, intrinsic_count, length-take 62 nodes)

  pub matches_self : (roots : List Value) → All (IsValue (length nodes)) roots → Matches nodes roots nodes roots (mirror (length nodes))
  matches_self roots h =
      let count = length nodes in
      record {
        firsts = λ i j d below within e.
            let inside : j < count = omega (arith, mirror_length count) in
            let same : i ≡ j = sym (ap (λ (p : Pair). p.first) (mirror_at count i d (omega arith))) ∙ e ∙ ap (λ (p : Pair). p.first) (mirror_at count j d inside) in
            omega arith;
        seconds = λ i j d below within e.
            let inside : j < count = omega (arith, mirror_length count) in
            let same : i ≡ j = sym (ap (λ (p : Pair). p.second) (mirror_at count i d (omega arith))) ∙ e ∙ ap (λ (p : Pair). p.second) (mirror_at count j d inside) in
            omega arith;
        intrinsics = λ number below. mirrored count number (omega (arith, enough));
        roots_agree = elements_agree count roots (values_place count roots h);
        pairs_agree = λ k d within. pair_agrees k d (omega (arith, mirror_length count));
        reached = λ number reach. (number, reached_self roots h number reach);
        others_reached = λ number reach. (number, reached_self roots h number reach);
      }
    where
      pair_agrees : (k : ℕ) (d : Pair) → k < length nodes → IsPairOf nodes nodes (mirror (length nodes)) (get_or (mirror (length nodes)) k d)
      pair_agrees k d h =
          ⊎_elim
          (λ found.
          subst (IsPairOf nodes nodes (mirror (length nodes))) (sym (mirror_at (length nodes) k d h))
          (record { one = found.0; other = found.0; first = found.2; second = found.2; agree = node_agrees nodes found.0 (node_lawful k found.0 found.2) }))
          (λ past. absurd (omega arith))
          (slice_get_cases nodes k).1
