-- The UTF-8 form of a text, by the characters that its code units stand for (ECMA-262, 11.1).
use Rattle.std.specs.Prelude.{ℕ, ◌+◌, ◌-◌, ◌*◌, Bool, ◌&&◌, ◌||◌, List, [], ◌∷◌, ◌++◌, nat_le, nat_lt, if◌then◌else◌, encode_utf8}

-- a leading surrogate (6.1.4)
abbrev pub is_lead : ℕ → Bool
is_lead unit = nat_le 0xD800 unit && nat_lt unit 0xDC00

-- a trailing surrogate (6.1.4)
abbrev pub is_trail : ℕ → Bool
is_trail unit = nat_le 0xDC00 unit && nat_lt unit 0xE000

-- the character of a lead and the trail behind it (11.1.3, UTF16SurrogatePairToCodePoint)
abbrev pub pair_character : ℕ → ℕ → ℕ
pair_character lead trail = 0x1_0000 + 0x400 * (lead - 0xD800) + (trail - 0xDC00)

-- the character of a unit that is in no pair, which is U+FFFD for a surrogate (22.1.3, toWellFormed)
abbrev pub lone_character : ℕ → ℕ
lone_character unit = if is_lead unit || is_trail unit then 0xFFFD else unit

-- the character that a text begins with (11.1.4, CodePointAt)
abbrev pub first_character : List ℕ → ℕ
first_character [] = 0
first_character (unit ∷ []) = lone_character unit
first_character (unit ∷ next ∷ rest) = if is_lead unit && is_trail next then pair_character unit next else lone_character unit

-- how many units that character takes
abbrev pub first_width : List ℕ → ℕ
first_width [] = 0
first_width (unit ∷ []) = 1
first_width (unit ∷ next ∷ rest) = if is_lead unit && is_trail next then 2 else 1

-- the UTF-8 forms of a text's characters, one after another (11.1.5, StringToCodePoints)
unfoldable pub utf8_of : List ℕ → List ℕ
utf8_of [] = []
utf8_of (unit ∷ []) = encode_utf8 (lone_character unit)
utf8_of (unit ∷ next ∷ rest) = if is_lead unit && is_trail next then encode_utf8 (pair_character unit next) ++ utf8_of rest
    else encode_utf8 (lone_character unit) ++ utf8_of (next ∷ rest)
