-- Matching the other way round.
use Rattle.std.proofs.Common.{◌≡◌, ℕ, ◌<◌, List, [], ◌∷◌, length, map, get_or, Option, None, Some, sym, ap, ◌∙◌, arith}
use Rattle.std.specs.List.{AllZip}
use Rattle.std.proofs.lemmas.List.{get_or-map, length-map}
use Rattle.std.proofs.lemmas.List.Elements.{All-map}
use Rattle.snap_graph.specs.declared.node.Node.{Node}
use Rattle.snap_graph.specs.declared.pairing.Pair.{Pair}
use Rattle.snap_graph.specs.declared.value.Value.{Value}
use Rattle.snap_graph.specs.Matching.{Agree, AgreeAs, ArePaired, IsPairOf, Matches, NodesAgree, PropertiesAgree, turned}
use Rattle.snap_graph.specs.Values.{node_of}

paired_turned : (pairs : List Pair) (first second : ℕ) → ArePaired pairs first second → ArePaired (map turned pairs) second first
paired_turned pairs first second among =
    let pair : Pair = record { first = first; second = second } in
    (among.0, omega (arith, among.1, length-map pairs turned), get_or-map turned pairs among.0 pair (turned pair) among.1 ∙ ap turned among.2)

agree_as_turned : (pairs : List Pair) (one other : Value) (m n : Option ℕ) → AgreeAs pairs one other m n → AgreeAs (map turned pairs) other one n m
agree_as_turned pairs one other None None h = sym h
agree_as_turned pairs one other None (Some n) h = h
agree_as_turned pairs one other (Some m) None h = h
agree_as_turned pairs one other (Some m) (Some n) h = paired_turned pairs m n h

pub agree_turned : (pairs : List Pair) (one other : Value) → Agree pairs one other → Agree (map turned pairs) other one
agree_turned pairs one other h = agree_as_turned pairs one other (node_of one) (node_of other) h

pub all_turned : {A : Type 0} (R S : A → A → Type 0) → ((x y : A) → R x y → S y x) → (xs ys : List A) → AllZip R xs ys → AllZip S ys xs
all_turned R S f [] [] h = tt
all_turned R S f [] (y ∷ ys) h = h
all_turned R S f (x ∷ xs) [] h = h
all_turned R S f (x ∷ xs) (y ∷ ys) h = (f x y h.0, all_turned R S f xs ys h.1)

nodes_turned : (pairs : List Pair) (one other : Node) → NodesAgree pairs one other → NodesAgree (map turned pairs) other one
nodes_turned pairs one other h = record {
  kind = sym h.kind;
  frozen = sym h.frozen;
  prototype = agree_turned pairs one.prototype other.prototype h.prototype;
  properties = all_turned (PropertiesAgree pairs) (PropertiesAgree (map turned pairs)) (λ x y p. (sym p.0, agree_turned pairs x.value y.value p.1)) one.properties other.properties h.properties;
  elements = all_turned (Agree pairs) (Agree (map turned pairs)) (agree_turned pairs) one.elements other.elements h.elements;
}

pub pair_turned : (nodes others : List Node) (pairs : List Pair) (pair : Pair) → IsPairOf nodes others pairs pair → IsPairOf others nodes (map turned pairs) (turned pair)
pair_turned nodes others pairs pair h = record { one = h.other; other = h.one; first = h.second; second = h.first; agree = nodes_turned pairs h.one h.other h.agree }

-- what is read of turned pairs
pub turned_at : (pairs : List Pair) (i : ℕ) (d : Pair) → i < length pairs → get_or (map turned pairs) i d ≡ turned (get_or pairs i (turned d))
turned_at pairs i d h = get_or-map turned pairs i (turned d) d h

pub matches_turned : (nodes others : List Node) (roots other_roots : List Value) (pairs : List Pair) → Matches nodes roots others other_roots pairs → Matches others other_roots nodes roots (map turned pairs)
matches_turned nodes others roots other_roots pairs h = record {
  firsts = λ i j d below within e.
      let inside : j < length pairs = omega (arith, length-map pairs turned) in
      h.seconds i j (turned d) below inside (sym (ap (λ (p : Pair). p.first) (turned_at pairs i d (omega arith))) ∙ e ∙ ap (λ (p : Pair). p.first) (turned_at pairs j d inside));
  seconds = λ i j d below within e.
      let inside : j < length pairs = omega (arith, length-map pairs turned) in
      h.firsts i j (turned d) below inside (sym (ap (λ (p : Pair). p.second) (turned_at pairs i d (omega arith))) ∙ e ∙ ap (λ (p : Pair). p.second) (turned_at pairs j d inside));
  intrinsics = λ number below. paired_turned pairs number number (h.intrinsics number below);
  roots_agree = all_turned (Agree pairs) (Agree (map turned pairs)) (agree_turned pairs) roots other_roots h.roots_agree;
  pairs_agree = All-map (IsPairOf others nodes (map turned pairs)) turned pairs (λ k d within. pair_turned nodes others pairs (get_or pairs k d) (h.pairs_agree k d within));
  reached = λ number reach. let p = h.others_reached number reach in (p.0, paired_turned pairs p.0 number p.1);
  others_reached = λ number reach. let p = h.reached number reach in (p.0, paired_turned pairs number p.0 p.1);
}
