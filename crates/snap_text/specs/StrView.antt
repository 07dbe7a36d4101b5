-- A view of a text in bytes that somebody else keeps.
use Rattle.std.specs.Prelude.{ℕ, ◌+◌, ◌*◌, List, [], ◌∷◌}
use Rattle.snap_text.specs.declared.view.StrView.{StrView}
use Rattle.snap_text.specs.declared.view.StrView.TheVariants.{One, Two}

-- the numbers that pairs of bytes stand for, the low byte first
abbrev pub pairs : List ℕ → List ℕ
pairs [] = []
pairs (low ∷ []) = []
pairs (low ∷ high ∷ rest) = (low + 256 * high) ∷ pairs rest

-- the code units of a view
abbrev pub units : StrView → List ℕ
units (One bytes) = bytes.now
units (Two bytes) = pairs bytes.now
