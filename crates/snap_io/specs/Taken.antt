-- What was taken from a reader into a list of bytes.
use Rattle.std.specs.Prelude.{◌≡◌, ◌≤◌, ℕ, List, ◌++◌, Option, length}
use Rattle.std.specs.Io.KnownBytes.{Consumes}

-- the bytes grew by what the reader gave
abbrev pub Takes : Option (List ℕ) → Option (List ℕ) → List ℕ → List ℕ → Type 0
Takes left left' bytes bytes' = (piece : List ℕ) × (bytes' ≡ bytes ++ piece) × Consumes left left' piece

-- at most so many bytes were taken
abbrev pub TakesAtMost : Option (List ℕ) → Option (List ℕ) → ℕ → Type 0
TakesAtMost left left' most = (piece : List ℕ) × (length piece ≤ most) × Consumes left left' piece
