-- A number that is spelled is read again, and a number that is read is spelled so.
use Rattle.std.proofs.Common.{◌≡◌, ℕ, zero, suc, ◌+◌, ◌*◌, ◌^◌, ◌<◌, ◌≤◌, List, [], ◌∷◌, ◌++◌, length, get_or, take, drop, refl, sym, ap, ◌∙◌, append_assoc, add-zero, inl, inr, arith}
use Rattle.std.specs.List.{flat_map}
use Rattle.std.specs.Prelude.{All}
use Rattle.std.proofs.lemmas.Bool.{cases_lt}
use Rattle.std.proofs.lemmas.List.{length-append, length-drop, length-take, get_or-drop, get_or-take, get_or_past, drop_at, drop-drop, drop-append-le}
use Rattle.std.proofs.lemmas.List.Elements.{All-head, All-tail}
use Rattle.std.proofs.lemmas.Nat.{le_bytes_4}
use Rattle.byteorder.specs.Endian.{little_number}
use Rattle.byteorder.specs.Numbers.{little_from-append, little_from-lt, little_from-take, little_number-reads_back}
use Rattle.spec_format.specs.Number.{AreBytes, number32, spelled32}

-- a number is spelled in four bytes
pub length-spelled32 : (n : ℕ) → length (spelled32 n) ≡ 4
unfolding spelled32
length-spelled32 n = refl

-- what is spelled is read again, whatever follows
pub number32_spelled : (n : ℕ) (rest : List ℕ) → n < 2 ^ 32 → number32 (spelled32 n ++ rest) 0 ≡ n
unfolding number32 spelled32
number32_spelled n rest lt = little_number-reads_back 4 n rest lt

-- a number does not depend on what follows it
pub number32-append_left : (xs ys : List ℕ) (at : ℕ) → at + 4 ≤ length xs → number32 (xs ++ ys) at ≡ number32 xs at
unfolding number32
number32-append_left xs ys at h =
    ap (little_number 4) (drop-append-le at xs ys (omega arith))
    ∙ little_from-append 4 (drop at xs) ys (omega (arith, length-drop at xs))

-- a number behind other bytes
pub number32-append_right : (xs ys : List ℕ) (at n : ℕ) → length xs ≡ n → number32 (xs ++ ys) (n + at) ≡ number32 ys at
unfolding number32
number32-append_right xs ys at n e =
    ap (little_number 4) (sym (drop-drop at n (xs ++ ys)) ∙ ap (drop at) (drop_at xs ys n e))

-- a byte at any place, past the end too
byte_at : (bytes : List ℕ) → AreBytes bytes → (i : ℕ) → get_or bytes i 0 < 256
byte_at bytes fits i =
    elim (cases_lt i (length bytes)) [
      | inl lt ↦ fits i 0 lt
      | inr le ↦ rw (get_or_past bytes i 0 le) (omega arith)
    ]

-- a number of four bytes
pub number32-lt : (bytes : List ℕ) (at : ℕ) → AreBytes bytes → number32 bytes at < 2 ^ 32
unfolding number32
number32-lt bytes at fits = little_from-lt 0 4 (drop at bytes) (λ k. rw get_or-drop (byte_at bytes fits (at + k)))

-- the four bytes that are read spell the number
pub spelled32_number : (bytes : List ℕ) (at : ℕ) → AreBytes bytes → at + 4 ≤ length bytes → take 4 (drop at bytes) ≡ spelled32 (number32 bytes at)
unfolding number32 spelled32
spelled32_number bytes at fits h =
    let four = take 4 (drop at bytes) in
    let len : length four ≡ 4 = omega (arith, length-take 4 (drop at bytes), length-drop at bytes) in
    let small : (i : ℕ) → get_or four i 0 < 256 = λ i.
    elim (cases_lt i 4) [
      | inl lt ↦ rw (get_or-take 4 (drop at bytes) i 0 lt, get_or-drop) (byte_at bytes fits (at + i))
      | inr le ↦ rw (get_or_past four i 0 (omega arith)) (omega arith)
    ] in
    let e : little_number 4 (drop at bytes) ≡ little_number 4 four = sym (little_from-take 0 4 4 (drop at bytes) (omega arith)) in
    sym (le_bytes_4 four (little_number 4 (drop at bytes)) len small (e ∙ omega arith))

-- numbers have four bytes each
pub length-spelled32_all : (ns : List ℕ) → length (flat_map spelled32 ns) ≡ 4 * length ns
length-spelled32_all [] = refl
length-spelled32_all (n ∷ ns) =
    omega (arith, length-append (spelled32 n) (flat_map spelled32 ns), length-spelled32 n, length-spelled32_all ns)

-- a number of several that are spelled one behind the other
pub number32_spelled_all : (ns : List ℕ) (k : ℕ) → All (λ n. n < 2 ^ 32) ns → k < length ns → number32 (flat_map spelled32 ns) (4 * k) ≡ get_or ns k 0
number32_spelled_all [] k small lt = absurd (omega arith)
number32_spelled_all (n ∷ ns) zero small lt = number32_spelled n (flat_map spelled32 ns) (All-head (λ n. n < 2 ^ 32) n ns small)
number32_spelled_all (n ∷ ns) (suc k) small lt =
    let e : 4 * suc k ≡ 4 + 4 * k = omega arith in
    rw e (number32-append_right (spelled32 n) (flat_map spelled32 ns) (4 * k) 4 (length-spelled32 n)
    ∙ number32_spelled_all ns k (All-tail (λ n. n < 2 ^ 32) n ns small) (omega arith))

-- a number that is spelled between other bytes
pub number32_between : (front : List ℕ) (n : ℕ) (rest : List ℕ) (at : ℕ) → length front ≡ at → n < 2 ^ 32 → number32 ((front ++ spelled32 n) ++ rest) at ≡ n
number32_between front n rest at e small =
    ap (λ w. number32 w at) (append_assoc front (spelled32 n) rest)
    ∙ ap (number32 (front ++ (spelled32 n ++ rest))) (sym (add-zero at))
    ∙ number32-append_right front (spelled32 n ++ rest) 0 at e
    ∙ number32_spelled n rest small

-- a number of a table that is spelled between other bytes
pub number32_in_table : (front ns rest : List ℕ) (at k : ℕ) → length front ≡ at → All (λ n. n < 2 ^ 32) ns → k < length ns
    → number32 ((front ++ flat_map spelled32 ns) ++ rest) (at + 4 * k) ≡ get_or ns k 0
number32_in_table front ns rest at k e small lt =
    ap (λ w. number32 w (at + 4 * k)) (append_assoc front (flat_map spelled32 ns) rest)
    ∙ number32-append_right front (flat_map spelled32 ns ++ rest) (4 * k) at e
    ∙ number32-append_left (flat_map spelled32 ns) rest (4 * k) (omega (arith, length-spelled32_all ns))
    ∙ number32_spelled_all ns k small lt

-- a table fits where each of its entries does
pub table_fits : (at n len : ℕ) → at ≤ len → ((k : ℕ) → k < n → at + 4 * k + 4 ≤ len) → at + 4 * n ≤ len
table_fits at zero len empty each_fits = omega arith
table_fits at (suc n) len empty each_fits = let last = each_fits n (omega arith) in omega (arith, last)
