-- The bytes of a source, by classes.
use Rattle.std.specs.Prelude.{ℕ, Bool, ◌==◌, ◌&&◌, ◌||◌, nat_le}

-- from the low one to the high one
abbrev pub is_between : ℕ → ℕ → ℕ → Bool
is_between low high b = nat_le low b && nat_le b high

-- LF and CR
unfoldable pub is_line_end : ℕ → Bool
is_line_end b = b == 10 || b == 13

-- a tab or a space
unfoldable pub is_blank : ℕ → Bool
is_blank b = b == 9 || b == 32

-- from the space to the tilde
unfoldable pub is_printable : ℕ → Bool
is_printable b = is_between 32 126 b

-- a byte that may stand in a line
unfoldable pub is_in_line : ℕ → Bool
is_in_line b = b == 9 || is_between 32 126 b

-- a byte that may stand in a source
unfoldable pub is_source : ℕ → Bool
is_source b = is_in_line b || is_line_end b

-- 0 to 9
unfoldable pub is_digit : ℕ → Bool
is_digit b = is_between 48 57 b

-- a letter, _ or $
unfoldable pub is_start : ℕ → Bool
is_start b = is_between 97 122 b || is_between 65 90 b || b == 95 || b == 36

-- a letter, a digit, _ or $
unfoldable pub is_part : ℕ → Bool
is_part b = is_start b || is_digit b

-- 0 to 9, a to f, A to F
unfoldable pub is_hex : ℕ → Bool
is_hex b = is_digit b || is_between 97 102 b || is_between 65 70 b

-- ' or "
unfoldable pub is_quote : ℕ → Bool
is_quote b = b == 39 || b == 34
