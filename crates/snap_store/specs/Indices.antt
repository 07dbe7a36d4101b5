-- Texts that may be indices.
use Rattle.std.specs.Prelude.{◌≡◌, ◌<◌, ◌≤◌, ℕ, List, length, get_or}

-- a text of 1 to 10 units, with no zero in front
abbrev pub IsShort : List ℕ → Type 0
IsShort text = (0 < length text) × (length text ≤ 10) × (get_or text 0 0 ≡ 48 → length text ≡ 1)
