-- Lists that rise by a number, and hold the same at each number in the same order, are one.
use Rattle.std.proofs.Common.{◌≡◌, ◌≢◌, ℕ, zero, suc, ◌<◌, ◌≤◌, ◌==◌, ◌&&◌, Bool, true, false, not, cond, List, [], ◌∷◌, length, map, filter, refl, sym, ap, subst, ◌∙◌, ◌⊎◌, inl, inr, ⊎_elim, arith}
use Rattle.std.specs.List.Sorted.{IsNonDecreasingBy}
use Rattle.std.specs.Ordering.{is_lt, nat_cmp}
use Rattle.std.proofs.lemmas.Bool.{cases_order, eq-eqb, le-ltb, lt-ltb, ne_eqb}
use Rattle.std.proofs.lemmas.List.Sorted.{IsNonDecreasingBy-from_default}
use Rattle.std.proofs.Math.ListN.{get_or-map}

tail_rises : {X : Type 0} (n : X → ℕ) (x : X) (xs : List X) → IsNonDecreasingBy n (x ∷ xs) → IsNonDecreasingBy n xs
tail_rises n x xs rises i j d le within = rises (suc i) (suc j) d (omega arith) (omega arith)

-- nothing below the first is in a list that rises
none_below : {X : Type 0} (n : X → ℕ) (x : X) (xs : List X) (p : ℕ) → IsNonDecreasingBy n (x ∷ xs) → p < n x → filter (λ z. n z == p) (x ∷ xs) ≡ []
none_below n x [] p rises below = rw (ne_eqb (n x) p (λ e. omega arith)) refl
none_below {X} n x (y ∷ ys) p rises below =
    let next : n x ≤ n y = rises zero (suc zero) x (omega arith) (omega arith) in
    rw (ne_eqb (n x) p (λ e. omega arith)) (none_below n y ys p (tail_rises n x (y ∷ ys) rises) (omega arith))

first_at : {X : Type 0} (n : X → ℕ) (x : X) (xs : List X) (p : ℕ) → n x ≡ p → filter (λ z. n z == p) (x ∷ xs) ≡ x ∷ filter (λ z. n z == p) xs
first_at n x xs p e = rw (eq-eqb (n x) p e) refl

first_not_at : {X : Type 0} (n : X → ℕ) (x : X) (xs : List X) (p : ℕ) → n x ≢ p → filter (λ z. n z == p) (x ∷ xs) ≡ filter (λ z. n z == p) xs
first_not_at n x xs p apart = rw (ne_eqb (n x) p apart) refl

not_empty : {X : Type 0} (x : X) (xs : List X) → x ∷ xs ≡ [] → ⊥
not_empty x xs e = cc

same_first : {X : Type 0} (x y : X) (xs ys : List X) → x ∷ xs ≡ y ∷ ys → (x ≡ y) × (xs ≡ ys)
same_first x y xs ys e = (cc, cc)

pub one_order : {X : Type 0} (n : X → ℕ) (xs ys : List X) → IsNonDecreasingBy n xs → IsNonDecreasingBy n ys
    → ((p : ℕ) → filter (λ z. n z == p) xs ≡ filter (λ z. n z == p) ys) → xs ≡ ys
one_order n [] [] xs_rise ys_rise same = refl
one_order n [] (y ∷ ys) xs_rise ys_rise same = absurd (not_empty y (filter (λ z. n z == n y) ys) (sym (first_at n y ys (n y) refl) ∙ sym (same (n y))))
one_order n (x ∷ xs) [] xs_rise ys_rise same = absurd (not_empty x (filter (λ z. n z == n x) xs) (sym (first_at n x xs (n x) refl) ∙ same (n x)))
one_order {X} n (x ∷ xs) (y ∷ ys) xs_rise ys_rise same =
    ⊎_elim (equal (one_order n xs ys (tail_rises n x xs xs_rise) (tail_rises n y ys ys_rise))) (⊎_elim below above) (cases_order (n x) (n y))
  where
    below : n x < n y → x ∷ xs ≡ y ∷ ys
    below h = absurd (not_empty x (filter (λ z. n z == n x) xs) (sym (first_at n x xs (n x) refl) ∙ same (n x) ∙ none_below n y ys (n x) ys_rise h))

    above : n y < n x → x ∷ xs ≡ y ∷ ys
    above h = absurd (not_empty y (filter (λ z. n z == n y) ys) (sym (first_at n y ys (n y) refl) ∙ sym (same (n y)) ∙ none_below n x xs (n y) xs_rise h))

    at : (p : ℕ) → n x ≡ n y → filter (λ z. n z == n y) xs ≡ filter (λ z. n z == n y) ys → (n y ≡ p) ⊎ ((n y < p) ⊎ (p < n y)) → filter (λ z. n z == p) xs ≡ filter (λ z. n z == p) ys
    at p e tails (inl here) = subst (λ (q : ℕ). filter (λ z. n z == q) xs ≡ filter (λ z. n z == q) ys) here tails
    at p e tails (inr elsewhere) =
        let apart : n y ≢ p = (λ k. ⊎_elim (λ (h : n y < p). omega arith) (λ (h : p < n y). omega arith) elsewhere) in
        sym (first_not_at n x xs p (λ k. apart (sym e ∙ k))) ∙ same p ∙ first_not_at n y ys p apart

    equal : (((p : ℕ) → filter (λ z. n z == p) xs ≡ filter (λ z. n z == p) ys) → xs ≡ ys) → n x ≡ n y → x ∷ xs ≡ y ∷ ys
    equal rest e =
        let parts = same_first x y (filter (λ z. n z == n y) xs) (filter (λ z. n z == n y) ys) (sym (first_at n x xs (n y) e) ∙ same (n y) ∙ first_at n y ys (n y) refl) in
        ap (λ (z : X). z ∷ xs) parts.0 ∙ ap (λ (zs : List X). y ∷ zs) (rest (λ p. at p e parts.1 (cases_order (n y) p)))

-- lists that are made of others
pub filter-map : {X Y : Type 0} (f : X → Y) (p : Y → Bool) (xs : List X) → filter p (map f xs) ≡ map f (filter (λ x. p (f x)) xs)
filter-map f p [] = refl
filter-map {X} {Y} f p (x ∷ xs) = by (filter-map f p xs) (p (f x)) refl
  where
    by : filter p (map f xs) ≡ map f (filter (λ z. p (f z)) xs) → (b : Bool) → p (f x) ≡ b → cond (p (f x)) (f x ∷ filter p (map f xs)) (filter p (map f xs)) ≡ map f (cond (p (f x)) (x ∷ filter (λ z. p (f z)) xs) (filter (λ z. p (f z)) xs))
    by rest true e = rw e (ap (λ (ys : List Y). f x ∷ ys) rest)
    by rest false e = rw e rest

pub map-map : {X Y Z : Type 0} (f : X → Y) (g : Y → Z) (xs : List X) → map g (map f xs) ≡ map (λ x. g (f x)) xs
map-map f g [] = refl
map-map {X} {Y} {Z} f g (x ∷ xs) = ap (λ (zs : List Z). g (f x) ∷ zs) (map-map f g xs)

pub map_rises : {X Y : Type 0} (f : X → Y) (n : Y → ℕ) (d : X) (xs : List X) → length (map f xs) ≡ length xs → IsNonDecreasingBy (λ x. n (f x)) xs → IsNonDecreasingBy n (map f xs)
map_rises f n d xs len rises = IsNonDecreasingBy-from_default n (map f xs) (f d) (λ i j le within.
    rw (get_or-map f xs i d, get_or-map f xs j d) (rises i j d le (omega arith)))

-- those that neither precede nor follow a number are those at it
pub ties_at : (p q : ℕ) → not (is_lt (nat_cmp p q)) && not (is_lt (nat_cmp q p)) ≡ (q == p)
ties_at p q = ⊎_elim equal (⊎_elim below above) (cases_order p q)
  where
    equal : p ≡ q → not (is_lt (nat_cmp p q)) && not (is_lt (nat_cmp q p)) ≡ (q == p)
    equal e = rw (le-ltb p q (omega arith), eq-eqb p q e, le-ltb q p (omega arith), eq-eqb q p (sym e)) refl

    below : p < q → not (is_lt (nat_cmp p q)) && not (is_lt (nat_cmp q p)) ≡ (q == p)
    below h = rw (lt-ltb p q h, ne_eqb q p (λ e. omega arith)) refl

    above : q < p → not (is_lt (nat_cmp p q)) && not (is_lt (nat_cmp q p)) ≡ (q == p)
    above h = rw (le-ltb p q (omega arith), ne_eqb p q (λ e. omega arith), lt-ltb q p h, ne_eqb q p (λ e. omega arith)) refl
