-- A thin blob, by its parts.
use Rattle.std.specs.Prelude.{◌≡◌, ℕ, ◌<◌, ◌^◌, All, List, Some, length}
use Rattle.spec_format.specs.Shapes.{AreLawful}
use Rattle.spec_format.specs.Startup.{AreShort, one_script, startup_bytes}
use Rattle.spec_sections.specs.Properties.{DenotesGlobal}
use Rattle.snap_commands.specs.Properties.{properties_of}
use Rattle.snap_commands.specs.Thin.{Globals, ThinStatement}
use Rattle.snap_commands.specs.ThinBlob.{IsThinGlobal}
use Rattle.snap_commands.specs.ThinSource.{thin_script}

-- with these strings the sections are those of a thin script and of a global object with these globals
pub record AreThin (strings : List (List ℕ)) (startup context : List ℕ) (globals : Globals) : Type 0 where
  pub seed : ℕ
  pub seed_fits : seed < 2 ^ 64
  pub script : List ℕ
  pub shapes : List (ℕ × ℕ)
  pub shapes_fit : AreShort shapes
  pub startup_is : startup ≡ startup_bytes (one_script seed script shapes)
  pub lawful : AreLawful (length strings) shapes
  pub denotes : DenotesGlobal strings shapes context (properties_of globals)
  pub statements : List ThinStatement
  pub thin_source : thin_script script ≡ Some statements
  pub thin_globals : All IsThinGlobal globals
