-- Bytes that are cut into pieces at ends that ascend, and pieces that are joined.
use Rattle.std.proofs.Common.{◌≡◌, ℕ, zero, suc, ◌+◌, ◌-◌, ◌*◌, ◌^◌, ◌<◌, ◌≤◌, List, [], ◌∷◌, ◌++◌, length, get_or, take, drop, refl, sym, ap, subst, ◌∙◌, append_assoc, add-one, arith}
use Rattle.std.specs.Prelude.{All, map, slice_range}
use Rattle.std.specs.List.{range_with_len, flat_map, concat}
use Rattle.std.proofs.Math.Seq.{take-add}
use Rattle.std.proofs.lemmas.List.{append-nil, length-append, length-drop, length-take-le, take_at, drop_at, drop-drop}
use Rattle.std.proofs.lemmas.List.Concat.{flat_map-append}
use Rattle.std.proofs.lemmas.List.Elements.{All-take, All-drop}
use Rattle.std.proofs.lemmas.List.Folds.{concat-append}
use Rattle.std.proofs.lemmas.List.FromFn.{length-map-range_with_len, get_or-map-range_with_len, map-range_with_len_more}
use Rattle.spec_format.specs.Number.{AreBytes, ends_from, number32, spelled32}
use Rattle.spec_format.proofs.Numbers.{spelled32_number}

-- ---- cutting

-- two parts that stand side by side
slice_join : (bytes : List ℕ) (a b c : ℕ) → a ≤ b → b ≤ c → slice_range bytes a b ++ slice_range bytes b c ≡ slice_range bytes a c
slice_join bytes a b c ab bc =
    let whole : c - a ≡ (b - a) + (c - b) = omega arith in
    let from : a + (b - a) ≡ b = omega arith in
    let rest : drop (b - a) (drop a bytes) ≡ drop b bytes = drop-drop (b - a) a bytes ∙ ap (λ k. drop k bytes) from in
    sym (ap (λ k. take k (drop a bytes)) whole ∙ take-add (b - a) (c - b) (drop a bytes) ∙ ap (λ w. take (b - a) (drop a bytes) ++ take (c - b) w) rest)

-- two parts that stand side by side, by what they are
pub slice_then : (bytes xs ys : List ℕ) (a b c : ℕ) → a ≤ b → b ≤ c → slice_range bytes a b ≡ xs → slice_range bytes b c ≡ ys → slice_range bytes a c ≡ xs ++ ys
slice_then bytes xs ys a b c ab bc p q = sym (slice_join bytes a b c ab bc) ∙ rw (p, q) refl

-- a part of bytes consists of bytes
pub AreBytes-slice_range : (bytes : List ℕ) (a b : ℕ) → AreBytes bytes → AreBytes (slice_range bytes a b)
AreBytes-slice_range bytes a b fits = All-take (λ x. x < 256) (b - a) (drop a bytes) (All-drop (λ x. x < 256) a bytes fits)

-- how long a part is
pub length-slice_range : (bytes : List ℕ) (a b : ℕ) → b ≤ length bytes → length (slice_range bytes a b) ≡ b - a
length-slice_range bytes a b h = length-take-le (b - a) (drop a bytes) (omega (arith, length-drop a bytes))

-- four bytes for each number of a table
pub table_is_spelled : (bytes : List ℕ) (at n : ℕ) → AreBytes bytes → at + 4 * n ≤ length bytes
    → slice_range bytes at (at + 4 * n) ≡ flat_map spelled32 (map (λ k. number32 bytes (at + 4 * k)) (range_with_len 0 n))
table_is_spelled bytes at zero fits h = let e : at + 4 * 0 - at ≡ 0 = omega arith in rw e refl
table_is_spelled bytes at (suc n) fits h =
    let f : ℕ → ℕ = λ k. number32 bytes (at + 4 * k) in
    let last : slice_range bytes (at + 4 * n) (at + 4 * suc n) ≡ spelled32 (f n) =
    ap (λ k. take k (drop (at + 4 * n) bytes)) (let e : at + 4 * suc n - (at + 4 * n) ≡ 4 = omega arith in e)
    ∙ spelled32_number bytes (at + 4 * n) fits (omega arith) in
    let more : map f (range_with_len 0 (suc n)) ≡ map f (range_with_len 0 n) ++ f n ∷ [] =
    ap (λ k. map f (range_with_len 0 k)) (sym (add-one n)) ∙ map-range_with_len_more f 0 n n (omega arith) in
    let spelled : flat_map spelled32 (map f (range_with_len 0 (suc n))) ≡ flat_map spelled32 (map f (range_with_len 0 n)) ++ spelled32 (f n) =
    ap (flat_map spelled32) more ∙ flat_map-append spelled32 (map f (range_with_len 0 n)) (f n ∷ [])
    ∙ ap (λ w. flat_map spelled32 (map f (range_with_len 0 n)) ++ w) (append-nil (spelled32 (f n))) in
    slice_then bytes (flat_map spelled32 (map f (range_with_len 0 n))) (spelled32 (f n)) at (at + 4 * n) (at + 4 * suc n) (omega arith) (omega arith)
    (table_is_spelled bytes at n fits (omega arith)) last
    ∙ sym spelled

-- pieces that are cut at ends that ascend are the whole
pub concat_of_slices : (bytes : List ℕ) (start : ℕ → ℕ) (n : ℕ) → ((k : ℕ) → k < n → start k ≤ start (suc k))
    → (start 0 ≤ start n) × (concat (map (λ k. slice_range bytes (start k) (start (suc k))) (range_with_len 0 n)) ≡ slice_range bytes (start 0) (start n))
concat_of_slices bytes start zero up = (omega arith, let e : start 0 - start 0 ≡ 0 = omega arith in rw e refl)
concat_of_slices bytes start (suc n) up =
    let piece : ℕ → List ℕ = λ k. slice_range bytes (start k) (start (suc k)) in
    let so_far = concat_of_slices bytes start n (λ k lt. up k (omega arith)) in
    let last = up n (omega arith) in
    let more : map piece (range_with_len 0 (suc n)) ≡ map piece (range_with_len 0 n) ++ piece n ∷ [] =
    ap (λ k. map piece (range_with_len 0 k)) (sym (add-one n)) ∙ map-range_with_len_more piece 0 n n (omega arith) in (
      omega (arith, so_far.0),
      ap concat more ∙ concat-append (map piece (range_with_len 0 n)) (piece n ∷ [])
          ∙ ap (λ w. concat (map piece (range_with_len 0 n)) ++ w) (append-nil (piece n))
          ∙ sym (slice_then bytes (concat (map piece (range_with_len 0 n))) (piece n) (start 0) (start n) (start (suc n)) so_far.0 last (sym so_far.1) refl),
    )

-- where pieces end that were cut at these ends
pub ends_from_map : (end : ℕ → ℕ) (piece : ℕ → List ℕ) (a n : ℕ) → ((k : ℕ) → k < a + n → end k + length (piece k) ≡ end (suc k))
    → ends_from (end a) (map piece (range_with_len a n)) ≡ map (λ k. end (suc k)) (range_with_len a n)
ends_from_map end piece a zero h = refl
ends_from_map end piece a (suc n) h =
    let first : end a + length (piece a) ≡ end (suc a) = h a (omega arith) in
    let again = ends_from_map end piece (a + 1) n (λ k lt. h k (omega arith)) in
    let next : end (a + 1) ≡ end (suc a) = ap end (add-one a) in
    let rest : ends_from (end (suc a)) (map piece (range_with_len (a + 1) n)) ≡ map (λ k. end (suc k)) (range_with_len (a + 1) n) =
    ap (λ e. ends_from e (map piece (range_with_len (a + 1) n))) (sym next) ∙ again in
    ap (λ e. e ∷ ends_from e (map piece (range_with_len (a + 1) n))) first ∙ ap (λ w. end (suc a) ∷ w) rest

-- what holds of each number below the count holds of each item that is made of one
pub All-made : {X : Type 0} (P : X → Type 0) (f : ℕ → X) (n : ℕ) → ((k : ℕ) → k < n → P (f k)) → All P (map f (range_with_len 0 n))
All-made P f n h k d lt =
    let below : k < n = omega (arith, length-map-range_with_len f 0 n) in
    subst P (sym (get_or-map-range_with_len f 0 n k k d below (omega arith))) (h k below)

-- ---- joining

-- how many bytes stand before piece k
abbrev pub before : ℕ → List (List ℕ) → ℕ
before zero pieces = 0
before (suc k) [] = 0
before (suc k) (piece ∷ pieces) = length piece + before k pieces

-- all pieces stand before the end
pub before_all : (pieces : List (List ℕ)) → before (length pieces) pieces ≡ length (concat pieces)
before_all [] = refl
before_all (p ∷ ps) = omega (arith, length-append p (concat ps), before_all ps)

-- one piece more
pub before-suc : (k : ℕ) (pieces : List (List ℕ)) → k < length pieces → before (suc k) pieces ≡ before k pieces + length (get_or pieces k [])
before-suc k [] lt = absurd (omega arith)
before-suc zero (p ∷ ps) lt = omega arith
before-suc (suc k) (p ∷ ps) lt = let e = before-suc k ps (omega arith) in omega (arith, e)

-- no piece ends behind the last
pub before-le : (k : ℕ) (pieces : List (List ℕ)) → before k pieces ≤ length (concat pieces)
before-le zero ps = omega arith
before-le (suc k) [] = omega arith
before-le (suc k) (p ∷ ps) = let h = before-le k ps in omega (arith, h, length-append p (concat ps))

-- there is an end for each piece
pub length-ends_from : (start : ℕ) (pieces : List (List ℕ)) → length (ends_from start pieces) ≡ length pieces
length-ends_from start [] = refl
length-ends_from start (p ∷ ps) = ap suc (length-ends_from (start + length p) ps)

-- the end of one piece
pub get_or-ends_from : (start : ℕ) (pieces : List (List ℕ)) (k d : ℕ) → k < length pieces → get_or (ends_from start pieces) k d ≡ start + before (suc k) pieces
get_or-ends_from start [] k d lt = absurd (omega arith)
get_or-ends_from start (p ∷ ps) zero d lt = omega arith
get_or-ends_from start (p ∷ ps) (suc k) d lt = let e = get_or-ends_from (start + length p) ps k d (omega arith) in omega (arith, e)

-- the ends are numbers of four bytes where the last one is
pub ends_from-lt : (start : ℕ) (pieces : List (List ℕ)) → start + length (concat pieces) < 2 ^ 32 → All (λ n. n < 2 ^ 32) (ends_from start pieces)
ends_from-lt start pieces fits k d lt =
    let below : k < length pieces = omega (arith, length-ends_from start pieces) in
    rw (get_or-ends_from start pieces k d below) (omega (arith, before-le (suc k) pieces))

-- the bytes of one piece, whatever follows the pieces
piece_at : (pieces : List (List ℕ)) (rest : List ℕ) (k : ℕ) → k < length pieces → take (length (get_or pieces k [])) (drop (before k pieces) (concat pieces ++ rest)) ≡ get_or pieces k []
piece_at [] rest k lt = absurd (omega arith)
piece_at (p ∷ ps) rest zero lt = rw append_assoc (take_at p (concat ps ++ rest) (length p) refl)
piece_at (p ∷ ps) rest (suc k) lt =
    rw append_assoc (rw (← (drop-drop (before k ps) (length p) (p ++ (concat ps ++ rest)))) (rw (drop_at p (concat ps ++ rest) (length p) refl) (piece_at ps rest k (omega arith))))

-- one of the pieces that stand between other bytes
pub slice_of_pieces : (front : List ℕ) (pieces : List (List ℕ)) (rest : List ℕ) (k from to : ℕ) → k < length pieces
    → from ≡ length front + before k pieces → to ≡ length front + before (suc k) pieces → slice_range ((front ++ concat pieces) ++ rest) from to ≡ get_or pieces k []
slice_of_pieces front pieces rest k from to lt is_from is_to =
    let len : to - from ≡ length (get_or pieces k []) = omega (arith, before-suc k pieces lt) in
    let behind : drop from ((front ++ concat pieces) ++ rest) ≡ drop (before k pieces) (concat pieces ++ rest) =
    ap (drop from) (append_assoc front (concat pieces) rest)
    ∙ ap (λ n. drop n (front ++ (concat pieces ++ rest))) is_from
    ∙ sym (drop-drop (before k pieces) (length front) (front ++ (concat pieces ++ rest)))
    ∙ ap (drop (before k pieces)) (drop_at front (concat pieces ++ rest) (length front) refl) in
    ap (λ n. take n (drop from ((front ++ concat pieces) ++ rest))) len ∙ ap (take (length (get_or pieces k []))) behind ∙ piece_at pieces rest k lt
