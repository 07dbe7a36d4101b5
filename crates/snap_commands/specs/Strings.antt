-- The strings of a blob, as the texts that they come from.
use Rattle.std.specs.Prelude.{◌≡◌, ℕ, suc, ◌+◌, List, [], ◌∷◌, length}
use Rattle.std.specs.List.{list_any}
use Rattle.std.specs.Str.{bytes_eq}

-- the bytes of texts, and one more for each
abbrev pub mass : List (List ℕ) → ℕ
mass [] = 0
mass (text ∷ texts) = suc (length text) + mass texts

-- a text is one of the strings exactly where it is one of the texts
abbrev pub AreOf : List (List ℕ) → List (List ℕ) → Type 0
AreOf strings texts = (text : List ℕ) → list_any (bytes_eq text) strings ≡ list_any (bytes_eq text) texts
