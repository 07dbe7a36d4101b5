-- The startup section: the hash seed of the builder, the scripts, the functions and the shapes.
use Rattle.std.specs.Prelude.{ℕ, ◌<◌, ◌^◌, All, List, [], ◌∷◌, ◌++◌, length}
use Rattle.std.specs.List.{flat_map}
use Rattle.spec_format.specs.Number.{spelled64}
use Rattle.spec_format.specs.Varint.{varint}

-- what a startup section holds
pub record Startup : Type 0 where
  pub seed : ℕ
  -- the bytes of each script
  pub scripts : List (List ℕ)
  -- each function: the number of its script, and that of its tree node
  pub functions : List (ℕ × ℕ)
  -- each shape from 1 on: the number of its parent, and that of the string that is its key
  pub shapes : List (ℕ × ℕ)

-- how many there are, and each of them
abbrev pub counted : {X : Type 0} → (X → List ℕ) → List X → List ℕ
counted spelling items = varint (length items) ++ flat_map spelling items

-- a script: how many bytes it has, and these
abbrev pub script_bytes : List ℕ → List ℕ
script_bytes script = varint (length script) ++ script

abbrev pub pair_bytes : ℕ × ℕ → List ℕ
pair_bytes pair = varint pair.0 ++ varint pair.1

-- the bytes of a startup section
abbrev pub startup_bytes : Startup → List ℕ
startup_bytes s =
    spelled64 s.seed ++ counted script_bytes s.scripts ++ counted pair_bytes s.functions ++ counted pair_bytes s.shapes

-- a startup section of one script and no functions
abbrev pub one_script : ℕ → List ℕ → List (ℕ × ℕ) → Startup
one_script seed script shapes = record { seed = seed; scripts = script ∷ []; functions = []; shapes = shapes }

-- numbers of 32 bits
abbrev pub AreShort : List (ℕ × ℕ) → Type 0
AreShort pairs = All (λ pair. (pair.0 < 2 ^ 32) × (pair.1 < 2 ^ 32)) pairs
