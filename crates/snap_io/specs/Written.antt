-- What a sink has written, where it tells it.
use Rattle.std.specs.Prelude.{◌≡◌, ℕ, List, ◌++◌, Option, Some, None}
use Rattle.snap_io.specs.Held.{IsPrefixOf}

-- what is told once a piece is appended. No call changes whether a sink tells
abbrev pub appended : Option (List ℕ) → List ℕ → Option (List ℕ)
appended None piece = None
appended (Some before) piece = Some (before ++ piece)

-- a prefix of the piece was appended, all of it or nothing included
abbrev pub AppendsInPart : List ℕ → Option (List ℕ) → Option (List ℕ) → Type 0
AppendsInPart piece before after = (part : List ℕ) × IsPrefixOf part piece × (after ≡ appended before part)
