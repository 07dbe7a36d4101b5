-- Heaps match in a world exactly where their graphs do by its pairs.
use Rattle.std.proofs.Common.{◌≡◌, ℕ, ◌<◌, All, List, length, map, get_or, sym, ap, refl, ◌∙◌, arith}
use Rattle.std.specs.List.{AllZip}
use Rattle.std.proofs.lemmas.List.{length-map}
use Rattle.std.proofs.lemmas.List.Elements.{All-map}
use Rattle.snap_graph.specs.declared.node.Node.{Node}
use Rattle.snap_graph.specs.declared.pairing.Pair.{Pair}
use Rattle.snap_graph.specs.declared.value.Value.{Value}
use Rattle.snap_graph.specs.declared.value.Value.TheVariants.{Node as At}
use Rattle.snap_graph.specs.Matching.{Agree, ArePaired, IsPairOf, Matches, turned}
use Rattle.snap_graph.specs.Paths.{IsReachable}
use Rattle.snap_graph.proofs.Following.{paths_agree}
use Rattle.snap_graph.proofs.Turning.{agree_turned, all_turned, pair_turned, turned_at}
use Rattle.spec_values.specs.Answer.{Heap}
use Rattle.laws_alike.specs.Alike.{Alike, Lists, Values, World}
use Rattle.laws_alike.proofs.Pairing.{pair_of}
use Rattle.laws_alike.proofs.Worlds.{two_nodes}

pub alike_from : (one other : Heap) (roots other_roots : List Value) (pairs : List Pair) → Matches one.nodes roots other.nodes other_roots pairs → one.private_nodes ≡ other.private_nodes → one.keys ≡ other.keys
    → Alike (record { pairs = pairs; count = length one.nodes; other_count = length other.nodes }) one other
alike_from one other roots other_roots pairs h private_nodes keys = record {
  count = refl;
  other_count = refl;
  private_nodes = private_nodes;
  keys = keys;
  firsts = h.firsts;
  seconds = h.seconds;
  intrinsics = h.intrinsics;
  each = h.pairs_agree;
}

-- a node that is reachable is paired
reached_paired : (pairs : List Pair) (nodes others : List Node) → All (IsPairOf nodes others pairs) pairs → (roots other_roots : List Value) → AllZip (Agree pairs) roots other_roots
    → (number : ℕ) → IsReachable nodes roots number → (second : ℕ) × ArePaired pairs number second
reached_paired pairs nodes others each roots other_roots h number reach =
    let there = paths_agree pairs nodes others each roots other_roots reach.0 (At number) h reach.1 in
    two_nodes pairs (λ u v. (second : ℕ) × ArePaired pairs number second) number there.0 (λ b p. (b, p)) there.2

turned_back : (pairs : List Pair) (first second : ℕ) → ArePaired (map turned pairs) second first → ArePaired pairs first second
turned_back pairs first second p =
    let below : p.0 < length pairs = omega (arith, p.1, length-map pairs turned) in
    (p.0, below, ap turned (sym (turned_at pairs p.0 (pair_of second first) below) ∙ p.2))

pub matches_from : (world : World) (one other : Heap) (roots other_roots : List Value) → Alike world one other → Lists Values world roots other_roots → Matches one.nodes roots other.nodes other_roots world.pairs
matches_from world one other roots other_roots alike h = record {
  firsts = alike.firsts;
  seconds = alike.seconds;
  intrinsics = alike.intrinsics;
  roots_agree = h;
  pairs_agree = alike.each;
  reached = reached_paired world.pairs one.nodes other.nodes alike.each roots other_roots h;
  others_reached = λ number reach.
      let found = reached_paired (map turned world.pairs) other.nodes one.nodes
      (All-map (IsPairOf other.nodes one.nodes (map turned world.pairs)) turned world.pairs (λ k d within. pair_turned one.nodes other.nodes world.pairs (get_or world.pairs k d) (alike.each k d within)))
      other_roots roots (all_turned (Agree world.pairs) (Agree (map turned world.pairs)) (agree_turned world.pairs) roots other_roots h) number reach in
      (found.0, turned_back world.pairs found.0 number found.1);
}
