-- Which node is paired with which.
use Rattle.std.proofs.Common.{◌≡◌, ◌≢◌, ℕ, ◌<◌, ◌==◌, Bool, true, false, All, AllPairs, List, get_or, Contains, refl, sym, ap, subst, ◌∙◌, ⊎_elim, arith}
use Rattle.std.proofs.lemmas.Bool.{cases_eq, cases_lt, eqb-false, eqb-true}
use Rattle.std.proofs.lemmas.List.{get_or_default}
use Rattle.std.proofs.lemmas.List.Elements.{Contains-get_or}
use Rattle.snap_graph.specs.declared.node.Node.{Node}
use Rattle.snap_graph.specs.declared.pairing.Pair.{Pair}
use Rattle.snap_graph.specs.Matching.{ArePaired, IsPairOf}
use Rattle.spec_values.specs.Answer.{Heap}
use Rattle.laws_alike.specs.Alike.{Alike, World}

-- two nodes as a pair, and how they are read
abbrev pub pair_of : ℕ → ℕ → Pair
pair_of first second = record { first = first; second = second }

pub read_pair : {world : World} {one other : Heap} → Alike world one other → (a b : ℕ) → ArePaired world.pairs a b → IsPairOf one.nodes other.nodes world.pairs (pair_of a b)
read_pair {world} {one} {other} alike a b p = subst (IsPairOf one.nodes other.nodes world.pairs) p.2 (alike.each p.0 (pair_of a b) p.1)

pub all_pairs : (nodes others : List Node) (pairs more : List Pair) → ((a b : ℕ) → ArePaired pairs a b → IsPairOf nodes others more (pair_of a b)) → All (IsPairOf nodes others more) pairs
all_pairs nodes others pairs more f k d within =
    let pair = get_or pairs k d in
    f pair.first pair.second (Contains-get_or pairs k d within)

-- pairs that are told apart by a number are one where it is the same
apart_one : (pairs : List Pair) (f : Pair → ℕ) → AllPairs (λ p q. f p ≢ f q) pairs → (p q : Pair) → Contains pairs p → Contains pairs q → f p ≡ f q → p ≡ q
apart_one pairs f apart p q h k e =
    let other : get_or pairs k.0 p ≡ q = get_or_default pairs k.0 p q k.1 ∙ k.2 in
    let here : get_or pairs h.0 q ≡ p = get_or_default pairs h.0 q p h.1 ∙ h.2 in
    ⊎_elim
    (λ (same : h.0 ≡ k.0). sym h.2 ∙ ap (λ i. get_or pairs i p) same ∙ other)
    (λ (unlike : h.0 ≡ k.0 → ⊥).
    ⊎_elim
    (λ (below : h.0 < k.0). absurd (apart h.0 k.0 p below k.1 (ap f h.2 ∙ e ∙ sym (ap f other))))
    (λ past. absurd (apart k.0 h.0 q (omega (arith, past, unlike)) h.1 (ap f k.2 ∙ sym e ∙ sym (ap f here))))
    (cases_lt h.0 k.0))
    (cases_eq h.0 k.0)

pub forth : {world : World} {one other : Heap} → Alike world one other → (a b c : ℕ) → ArePaired world.pairs a b → ArePaired world.pairs a c → b ≡ c
forth {world} alike a b c p q = ap (λ (x : Pair). x.second) (apart_one world.pairs (λ x. x.first) alike.firsts (pair_of a b) (pair_of a c) p q refl)

pub back : {world : World} {one other : Heap} → Alike world one other → (a b c : ℕ) → ArePaired world.pairs a c → ArePaired world.pairs b c → a ≡ b
back {world} alike a b c p q = ap (λ (x : Pair). x.first) (apart_one world.pairs (λ x. x.second) alike.seconds (pair_of a c) (pair_of b c) p q refl)

-- numbers are the same exactly where those that they are paired with are
pub numbers_same : {world : World} {one other : Heap} → Alike world one other → (a b c d : ℕ) → ArePaired world.pairs a b → ArePaired world.pairs c d → (a == c) ≡ (b == d)
numbers_same {world} alike a b c d p q = by (a == c) (b == d) refl refl
  where
    by : (x y : Bool) → (a == c) ≡ x → (b == d) ≡ y → x ≡ y
    by true true e f = refl
    by false false e f = refl
    by true false e f = absurd (eqb-false b d f (forth alike c b d (subst (λ n. ArePaired world.pairs n b) (eqb-true a c e) p) q))
    by false true e f = absurd (eqb-false a c e (back alike a c d (subst (λ n. ArePaired world.pairs a n) (eqb-true b d f) p) q))
