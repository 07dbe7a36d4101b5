-- Sections that stand in memory.
use Rattle.std.specs.Prelude.{ℕ, ◌+◌, List, Vec, length, map, replicate}
use Rattle.std.specs.List.{concat}
use Rattle.std.specs.Global.{Global}
use Rattle.spec_format.specs.Container.{end_entry}

-- the bytes of each section
abbrev pub lists_of : List (Vec ℕ Global) → List (List ℕ)
lists_of sections = map (λ (s : Vec ℕ Global). s.items) sections

-- how long a blob of these sections is
abbrev pub sealed_length : List (List ℕ) → ℕ
sealed_length sections = end_entry (length sections) + length (concat sections)

-- what stands in the place of the digest until it is known
abbrev pub zeros : List ℕ
zeros = replicate 32 0
