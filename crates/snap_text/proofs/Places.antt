-- The first place at which a test passes.
use Rattle.std.proofs.Common.{◌≡◌, ℕ, ◌+◌, ◌<◌, ◌≤◌, Bool, true, false, cond, not, List, [], ◌∷◌, ◌++◌, length, map, get_or, None, Some, Contains, position, refl, sym, ap, ◌∙◌, ⊎_elim, arith, length-append}
use Rattle.std.specs.List.{list_any, position_or_len}
use Rattle.std.specs.Str.{bytes_eq as text_eq}
use Rattle.std.proofs.lemmas.Bool.{both_ways, cases_lt, lt-ltb, eq-eqb}
use Rattle.std.proofs.lemmas.List.Folds.{list_any_none, position_or_len_push}
use Rattle.std.proofs.lemmas.List.Sums.{fails_before_first}
use Rattle.std.proofs.lemmas.List.{length-map}
use Rattle.std.proofs.lemmas.Slice.Eq.{bytes_eq-Decides}

-- elements that are seen as others have the places of those
position_or_len-map : {X Y : Type 0} (view : X → Y) (p : Y → Bool) (xs : List X) → position_or_len p (map view xs) ≡ position_or_len (λ x. p (view x)) xs
position_or_len-map view p [] = refl
position_or_len-map view p (x ∷ xs) = ap (λ n. cond (not (p (view x))) (1 + n) 0) (position_or_len-map view p xs)

pub position-map : {X Y : Type 0} (view : X → Y) (p : Y → Bool) (xs : List X) → position p (map view xs) ≡ position (λ x. p (view x)) xs
position-map view p xs = rw (position_or_len-map view p xs, length-map xs view) refl

-- a place is within the list, and one past it where no element passes
position_or_len_within : {X : Type 0} (p : X → Bool) (xs : List X) → position_or_len p xs ≤ length xs
position_or_len_within p [] = omega arith
position_or_len_within p (x ∷ xs) = by (not (p x)) (position_or_len p xs) (position_or_len_within p xs)
  where
    by : (b : Bool) (n : ℕ) → n ≤ length xs → cond b (1 + n) 0 ≤ length (x ∷ xs)
    by true n h = omega arith
    by false n h = omega arith

-- a place below the length is the position; where there is none, no place is
position_here : {X : Type 0} (p : X → Bool) (xs : List X) (n : ℕ) → position_or_len p xs ≡ n → n < length xs → position p xs ≡ Some n
position_here p xs n e h = rw (e, lt-ltb n (length xs) h) refl

nowhere : {X : Type 0} (p : X → Bool) (xs : List X) → position p xs ≡ None → position_or_len p xs ≡ length xs
nowhere p xs e =
    ⊎_elim
    (λ (h : position_or_len p xs < length xs).
    let here = position_here p xs (position_or_len p xs) refl h in
    absurd cc)
    (λ (h : length xs ≤ position_or_len p xs). omega (arith, position_or_len_within p xs))
    (cases_lt (position_or_len p xs) (length xs))

-- where there is no position, no element passes
pub none_passes : {X : Type 0} (p : X → Bool) (xs : List X) → position p xs ≡ None → list_any p xs ≡ false
none_passes p xs e = list_any_none p xs (λ k d h. fails_before_first p xs k d (omega (arith, nowhere p xs e)))

-- an element that alone passes has its place
pub position_new : {X : Type 0} (p : X → Bool) (xs : List X) (y : X) → position p xs ≡ None → p y ≡ true → position p (xs ++ y ∷ []) ≡ Some (length xs)
position_new p xs y e passes =
    let at = nowhere p xs e in
    position_here p (xs ++ y ∷ []) (length xs)
    (position_or_len_push p xs y ∙ rw (eq-eqb (position_or_len p xs) (length xs) at, passes) (omega arith))
    (omega (arith, length-append xs (y ∷ [])))

-- a text that is among the texts has a position
pub has_position : (texts : List (List ℕ)) (text : List ℕ) → Contains texts text → position (text_eq text) texts ≡ None → ⊥
has_position texts text among e =
    let no = fails_before_first (text_eq text) texts among.0 text (omega (arith, nowhere (text_eq text) texts e)) in
    let yes = (bytes_eq-Decides text (get_or texts among.0 text)).1 (sym among.2) in
    absurd (both_ways _ no yes)
