-- What a text stands for, in the language's own words: one unit an item.
use Rattle.std.specs.Prelude.{◌≡◌, ℕ, false, ◌==◌, List, [], ◌∷◌, ◌++◌, length, ◌⊎◌, Some}
use Rattle.spec_tokens.specs.Shape.{joined}
use Rattle.spec_tokens.specs.Text.{escape}

-- an item stands for its byte, or a backslash and an escape for the unit of the escape
abbrev pub IsUnit : List ℕ → List ℕ → ℕ → Type 0
IsUnit [] behind unit = ⊥
IsUnit (b ∷ bytes) behind unit =
    ((b == 92 ≡ false) × (unit ≡ b)) ⊎ ((b ≡ 92) × (escape (bytes ++ behind) ≡ Some (record { unit = unit; len = length bytes })))

-- these are what the items stand for, in order, before what stands behind them
abbrev pub AreUnits : List (List ℕ) → List ℕ → List ℕ → Type 0
AreUnits [] behind [] = Unit {0}
AreUnits (item ∷ items) behind (unit ∷ units) = IsUnit item (joined items ++ behind) unit × AreUnits items behind units
AreUnits items behind units = ⊥
