-- The parts of a context section, as they are read.
use Rattle.std.specs.Prelude.{◌≡◌, ℕ, ◌≤◌, List, [], ◌∷◌, ◌++◌, Some, slice_get}
use Rattle.spec_format.specs.Varint.{varint}
use Rattle.snap_graph.specs.declared.value.Value.{Value}
use Rattle.spec_sections.specs.Global.{value_bytes}
use Rattle.spec_sections.specs.Properties.{IsGlobalValue}

-- all that stands before the values
abbrev pub front_bytes : ℕ → List ℕ
front_bytes shape = 0x01 ∷ 0x09 ∷ 0x10 ∷ 0x00 ∷ 0x07 ∷ 0x00 ∷ 0x20 ∷ varint shape

-- all that stands behind them
abbrev pub end_bytes : List ℕ
end_bytes = 0x00 ∷ 0x00 ∷ 0x00 ∷ 0x00 ∷ []

-- bytes spell a value that a global object may hold, with this rest behind it
abbrev pub Spell : List (List ℕ) → List ℕ → Value → List ℕ → Type 0
Spell strings bytes value rest = IsGlobalValue strings value × (bytes ≡ value_bytes strings value ++ rest)

-- each shape's parent is below it
abbrev pub HaveParents : List (ℕ × ℕ) → Type 0
HaveParents shapes = (n parent name : ℕ) → slice_get shapes n ≡ Some (parent, name) → parent ≤ n
