-- Shapes of which none stands twice, by their order.
use Rattle.std.proofs.Common.{◌≡◌, ◌≢◌, ℕ, ◌+◌, ◌<◌, ◌⊎◌, false, AllPairs, List, length, get_or, map, swap, IsPermutation, IsSorted, inl, inr, sym, ap, subst, ◌∙◌, refl, true≢false, arith}
use Rattle.std.specs.List.{AllAdjacentBelow}
use Rattle.std.specs.Cmp.{IsTotalOrder}
use Rattle.std.specs.declared.cmp.Ordering.{Ordering}
use Rattle.std.specs.declared.cmp.Ordering.TheVariants.{Less, Equal, Greater}
use Rattle.std.specs.Ordering.{is_lt, nat_cmp, ordering_then, ordering_reverse}
use Rattle.std.proofs.lemmas.Bool.{cases_eq, cases_lt}
use Rattle.std.proofs.lemmas.Cmp.{nat_cmp_total, on_total, then_total}
use Rattle.std.proofs.lemmas.List.{length-map, get_or-map}
use Rattle.std.proofs.lemmas.List.Edits.{swapped_from_swap, length-swap}
use Rattle.std.proofs.lemmas.List.Sorted.{IsPermutation-keeps, ranks_by, sorted_far}
use Rattle.std.proofs.lemmas.Map.Lookups.{exact_pairs, exact_unsigned}
use Rattle.snap_blob.specs.declared.startups.ShapeStep.{ShapeStep}
use Rattle.snap_blob.specs.Steps.{pair_of}

-- the order by parent and then by key
abbrev pub step_cmp : ShapeStep → ShapeStep → Ordering
step_cmp a b = ordering_then (nat_cmp a.parent b.parent) (nat_cmp a.name b.name)

step_total : IsTotalOrder step_cmp
step_total = then_total (on_total (λ (s : ShapeStep). s.parent) nat_cmp_total) (on_total (λ (s : ShapeStep). s.name) nat_cmp_total)

same_step : (a b : ShapeStep) → pair_of a ≡ pair_of b → a ≡ b
same_step a b e = ap (λ (p : ℕ × ℕ). record { parent = p.0; name = p.1 }) e

-- ---- sorted shapes

tied : (r s : Ordering) → r ≡ ordering_reverse s → is_lt r ≡ false → is_lt s ≡ false → r ≡ Equal
tied r Less e p q = absurd (true≢false q)
tied r Equal e p q = e
tied r Greater e p q = absurd (true≢false (sym (ap is_lt e) ∙ p))

-- neither is below the other, so they are one
same_from_order : (a b : ShapeStep) → is_lt (step_cmp a b) ≡ false → is_lt (step_cmp b a) ≡ false → a ≡ b
same_from_order a b p q =
    same_step a b (exact_pairs nat_cmp nat_cmp exact_unsigned exact_unsigned (pair_of a) (pair_of b) (tied (step_cmp a b) (step_cmp b a) (step_total.antisymm a b) p q))

-- sorted shapes whose neighbours differ are all apart
pub apart_from_neighbours : (xs : List ShapeStep) → IsSorted step_cmp xs → AllAdjacentBelow (λ one other. one ≢ other) xs (length xs) → AllPairs (λ one other. one ≢ other) xs
apart_from_neighbours xs sorted differ = λ i j d lt inside e.
    let low : is_lt (step_cmp (get_or xs (i + 1) d) (get_or xs i d)) ≡ false = sorted i d (omega arith) (omega arith) in
    let far : is_lt (step_cmp (get_or xs j d) (get_or xs (i + 1) d)) ≡ false =
    sorted_far (λ x y. is_lt (step_cmp x y)) (ranks_by step_total (λ (s : ShapeStep). s)) xs sorted (i + 1) j d (omega arith) inside in
    let high : is_lt (step_cmp (get_or xs i d) (get_or xs (i + 1) d)) ≡ false = subst (λ w. is_lt (step_cmp w (get_or xs (i + 1) d)) ≡ false) (sym e) far in
    differ i d (omega arith) (same_from_order (get_or xs i d) (get_or xs (i + 1) d) high low)

pub neighbours_from_apart : (xs : List ShapeStep) → AllPairs (λ one other. one ≢ other) xs → AllAdjacentBelow (λ one other. one ≢ other) xs (length xs)
neighbours_from_apart xs apart = λ i d inside. apart i (i + 1) d (omega arith) inside

-- ---- another order

-- the element at k stood at m before those at i and j changed places
abbrev IsSource : ℕ → ℕ → ℕ → ℕ → Type 0
IsSource i j k m = ((k ≡ i) × (m ≡ j)) ⊎ (((k ≡ j) × (m ≡ i)) ⊎ ((k ≢ i) × (k ≢ j) × (m ≡ k)))

one_source : (i j p q m n : ℕ) → IsSource i j p m → IsSource i j q n → p ≢ q → m ≢ n
one_source i j p q m n (inl a) (inl b) ne e = ne (omega arith)
one_source i j p q m n (inl a) (inr (inl b)) ne e = ne (omega arith)
one_source i j p q m n (inl a) (inr (inr b)) ne e = b.1 (omega arith)
one_source i j p q m n (inr (inl a)) (inl b) ne e = ne (omega arith)
one_source i j p q m n (inr (inl a)) (inr (inl b)) ne e = ne (omega arith)
one_source i j p q m n (inr (inl a)) (inr (inr b)) ne e = b.0 (omega arith)
one_source i j p q m n (inr (inr a)) (inl b) ne e = a.1 (omega arith)
one_source i j p q m n (inr (inr a)) (inr (inl b)) ne e = a.0 (omega arith)
one_source i j p q m n (inr (inr a)) (inr (inr b)) ne e = ne (omega arith)

module _ {X : Type 0} where
  record CameFrom (xs ys : List X) (i j k : ℕ) (d : X) : Type 0 where
    pub source : ℕ
    pub is_source : IsSource i j k source
    pub inside : source < length xs
    pub same : get_or ys k d ≡ get_or xs source d

  came_from : (xs : List X) (i j k : ℕ) (d : X) → i < length xs → j < length xs → k < length xs → CameFrom xs (swap xs i j) i j k d
  came_from xs i j k d hi hj hk =
      let moved = swapped_from_swap xs (swap xs i j) i j d hi hj refl in
      elim (cases_eq k i) [
        | inl is_i ↦ record { source = j; is_source = inl (is_i, refl); inside = hj; same = ap (λ n. get_or (swap xs i j) n d) is_i ∙ moved.0 }
        | inr not_i ↦
            elim (cases_eq k j) [
              | inl is_j ↦ record { source = i; is_source = inr (inl (is_j, refl)); inside = hi; same = ap (λ n. get_or (swap xs i j) n d) is_j ∙ moved.1 }
              | inr not_j ↦ record { source = k; is_source = inr (inr (not_i, not_j, refl)); inside = hk; same = moved.2 k not_i not_j }
            ]
      ]

  -- of two places, whichever comes first
  both_ways : (xs : List X) → AllPairs (λ a b. a ≢ b) xs → (p q : ℕ) (d : X) → p ≢ q → p < length xs → q < length xs → get_or xs p d ≢ get_or xs q d
  both_ways xs apart p q d ne hp hq e =
      elim (cases_lt p q) [
        | inl below ↦ apart p q d below hq e
        | inr not_below ↦ apart q p d (omega arith) hp (sym e)
      ]

  swap_apart : (xs : List X) (i j : ℕ) → i < length xs → j < length xs → AllPairs (λ a b. a ≢ b) xs → AllPairs (λ a b. a ≢ b) (swap xs i j)
  swap_apart xs i j hi hj apart = λ p q d lt inside e.
      let one = came_from xs i j p d hi hj (omega (arith, length-swap xs i j)) in
      let other = came_from xs i j q d hi hj (omega (arith, length-swap xs i j)) in
      let differ : p ≢ q = λ s. omega arith in
      both_ways xs apart one.source other.source d (one_source i j p q one.source other.source one.is_source other.is_source differ) one.inside other.inside
      (sym one.same ∙ e ∙ other.same)

  -- elements that are apart are so in any order
  pub apart_permuted : (xs ys : List X) → IsPermutation xs ys → AllPairs (λ a b. a ≢ b) xs → AllPairs (λ a b. a ≢ b) ys
  apart_permuted xs ys moves apart = IsPermutation-keeps xs (AllPairs (λ (a b : X). a ≢ b)) apart (λ l i j hi hj h. swap_apart l i j hi hj h) ys moves

-- ---- shapes as pairs

pub pairs_apart : (xs : List ShapeStep) → AllPairs (λ one other. one ≢ other) xs → AllPairs (λ one other. one ≢ other) (map pair_of xs)
pairs_apart xs apart = λ i j d lt inside e.
    let none : ShapeStep = record { parent = 0; name = 0 } in
    let within : j < length xs = omega (arith, length-map xs pair_of) in
    let one = get_or-map pair_of xs i none d (omega arith) in
    let other = get_or-map pair_of xs j none d within in
    apart i j none lt within (same_step (get_or xs i none) (get_or xs j none) (sym one ∙ e ∙ other))

pub steps_apart : (xs : List ShapeStep) → AllPairs (λ one other. one ≢ other) (map pair_of xs) → AllPairs (λ one other. one ≢ other) xs
steps_apart xs apart = λ i j d lt inside e.
    let one = get_or-map pair_of xs i d (pair_of d) (omega arith) in
    let other = get_or-map pair_of xs j d (pair_of d) inside in
    apart i j (pair_of d) lt (omega (arith, length-map xs pair_of)) (one ∙ ap pair_of e ∙ sym other)
