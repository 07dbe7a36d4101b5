-- Pairs of bytes, by place.
use Rattle.std.proofs.Common.{◌≡◌, ℕ, zero, suc, ◌+◌, ◌*◌, ◌/◌, ◌<◌, List, [], ◌∷◌, length, get_or, refl, arith}
use Rattle.snap_text.specs.StrView.{pairs}

-- there are half as many pairs as bytes
pub length_pairs : (bytes : List ℕ) → length (pairs bytes) ≡ length bytes / 2
length_pairs [] = refl
length_pairs (low ∷ []) = refl
length_pairs (low ∷ high ∷ rest) = omega (arith, length_pairs rest)

-- pair i is made of the bytes at 2 i and behind it
pub get_or_pairs : (bytes : List ℕ) (i : ℕ) → i < length (pairs bytes) → get_or (pairs bytes) i 0 ≡ get_or bytes (2 * i) 0 + 256 * get_or bytes (2 * i + 1) 0
get_or_pairs [] i h = absurd (omega arith)
get_or_pairs (low ∷ []) i h = absurd (omega arith)
get_or_pairs (low ∷ high ∷ rest) zero h = refl
get_or_pairs (low ∷ high ∷ rest) (suc i) h =
    let first : 2 * suc i ≡ suc (suc (2 * i)) = omega arith in
    let second : suc (suc (2 * i)) + 1 ≡ suc (suc (2 * i + 1)) = omega arith in
    rw (first, second) (get_or_pairs rest i (omega arith))
