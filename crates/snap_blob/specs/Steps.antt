-- Shapes of a startup section, and what stands before them.
use Rattle.std.specs.Prelude.{◌≡◌, ℕ, ◌<◌, ◌^◌, List, ◌++◌}
use Rattle.spec_format.specs.Number.{spelled64}
use Rattle.spec_format.specs.Startup.{AreShort, one_script, script_bytes, startup_bytes}
use Rattle.spec_format.specs.Varint.{varint}
use Rattle.snap_blob.specs.declared.startups.ShapeStep.{ShapeStep}

-- the parent and the key of a shape
abbrev pub pair_of : ShapeStep → ℕ × ℕ
pair_of s = (s.parent, s.name)

-- the seed, the one script, and that there are no functions
abbrev pub front_bytes : ℕ → List ℕ → List ℕ
front_bytes seed script = spelled64 seed ++ varint 1 ++ script_bytes script ++ varint 0

-- the section is not that of one script and no functions, whatever the seed, the script and the shapes
abbrev pub HasNoStartup : List ℕ → Type 0
HasNoStartup section =
    (seed : ℕ) (script : List ℕ) (shapes : List (ℕ × ℕ)) → seed < 2 ^ 64 → AreShort shapes
    → section ≡ startup_bytes (one_script seed script shapes) → ⊥
