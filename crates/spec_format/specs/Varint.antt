-- Varints: seven bits a byte, the low ones first, the top bit on all bytes but the last.
use Rattle.std.specs.Prelude.{◌≡◌, ℕ, zero, suc, ◌+◌, ◌*◌, ◌/◌, ◌%◌, ◌<◌, ◌≤◌, ◌^◌, nat_lt, if◌then◌else◌, List, [], ◌∷◌, ◌++◌, All, Any}

-- The bytes spell the number, in the fewest bytes: where more bytes follow, what they stand for is not 0.
abbrev pub IsVarint : List ℕ → ℕ → Type 0
IsVarint [] n = ⊥
IsVarint (b ∷ []) n = (b < 128) × (n ≡ b)
IsVarint (b ∷ c ∷ bs) n = (128 ≤ b) × (b < 256) × (high : ℕ) × (0 < high) × (n + 128 ≡ b + 128 * high) × IsVarint (c ∷ bs) high

-- the bytes run to their end without a last byte of a varint
abbrev pub HasNoLastByte : List ℕ → Type 0
HasNoLastByte bytes = All (λ b. 128 ≤ b) bytes

-- a varint is complete at the front, and it is not the one spelling of a number below 2 ^ 64
pub record IsBadVarint (bytes : List ℕ) : Type 0 where
  pub complete : Any (λ b. b < 128) bytes
  pub no_number : (text rest : List ℕ) (n : ℕ) → bytes ≡ text ++ rest → IsVarint text n → 2 ^ 64 ≤ n

-- the spelling of a number, in one byte more than this at the most
unfoldable pub varint_within : ℕ → ℕ → List ℕ
varint_within zero n = n ∷ []
varint_within (suc more) n = if nat_lt n 128 then n ∷ [] else (128 + n % 128) ∷ varint_within more (n / 128)

-- the spelling of a number below 2 ^ 64, which has ten bytes at the most
unfoldable pub varint : ℕ → List ℕ
varint n = varint_within 9 n
