-- Fixed numbers, with their low byte first.
use Rattle.std.specs.Prelude.{ℕ, ◌+◌, ◌<◌, List, [], ◌∷◌, drop, length, All}
use Rattle.byteorder.specs.Endian.{little_bytes, little_number}

-- each item is a byte
abbrev pub AreBytes : List ℕ → Type 0
AreBytes bytes = All (λ b. b < 256) bytes

-- the number in the four bytes from a place on
unfoldable pub number32 : List ℕ → ℕ → ℕ
number32 bytes at = little_number 4 (drop at bytes)

-- the number in the eight bytes from a place on
unfoldable pub number64 : List ℕ → ℕ → ℕ
number64 bytes at = little_number 8 (drop at bytes)

-- the four bytes of a number below 2 ^ 32
unfoldable pub spelled32 : ℕ → List ℕ
spelled32 n = little_bytes 4 n

-- where each of some pieces ends, the first of which begins at start, one behind the other
abbrev pub ends_from : ℕ → List (List ℕ) → List ℕ
ends_from start [] = []
ends_from start (piece ∷ pieces) = (start + length piece) ∷ ends_from (start + length piece) pieces

-- the eight bytes of a number below 2 ^ 64
unfoldable pub spelled64 : ℕ → List ℕ
spelled64 n = little_bytes 8 n
