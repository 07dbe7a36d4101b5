-- What a blob with one context and one script denotes, where the global object is all that there is.
use Rattle.std.specs.Prelude.{◌≡◌, ℕ, ◌<◌, ◌^◌, List, [], Some, length}
use Rattle.snap_graph.specs.declared.value.Property.{Property}
use Rattle.spec_format.specs.Check.{AllHold}
use Rattle.spec_format.specs.Container.{container_checks, section}
use Rattle.spec_format.specs.Shapes.{AreLawful}
use Rattle.spec_format.specs.Startup.{AreShort, one_script, startup_bytes}
use Rattle.spec_format.specs.Strings.{strings_of}
use Rattle.spec_sections.specs.Properties.{DenotesGlobal}
use Rattle.snap_commands.specs.Properties.{properties_of, texts_of}
use Rattle.snap_commands.specs.Strings.{AreOf}
use Rattle.snap_commands.specs.Thin.{Globals, ThinStatement, leaves}
use Rattle.snap_commands.specs.ThinSource.{thin_script}
use Rattle.snap_commands.specs.Plain.{IsPlain, strings_checks}

-- the bytes denote this script, these strings and a global object with these properties, under some hash seed and with
-- shapes in some order
pub record Denotes (bytes script : List ℕ) (strings : List (List ℕ)) (properties : List Property) : Type 0 where
  pub container : AllHold (container_checks bytes)
  pub plain : IsPlain bytes
  pub strings_hold : AllHold (strings_checks bytes)
  pub strings_are : strings_of (section bytes 1) ≡ strings
  pub seed : ℕ
  pub seed_fits : seed < 2 ^ 64
  pub shapes : List (ℕ × ℕ)
  pub shapes_fit : AreShort shapes
  pub startup : section bytes 2 ≡ startup_bytes (one_script seed script shapes)
  pub lawful : AreLawful (length strings) shapes
  pub context : DenotesGlobal strings shapes (section bytes 3) properties

-- the source is a thin script that leaves these globals
pub record LeavesGlobals (source : List ℕ) (globals : Globals) : Type 0 where
  pub statements : List ThinStatement
  pub thin_source : thin_script source ≡ Some statements
  pub left : globals ≡ leaves statements []

-- the bytes denote the source and what it leaves, and their strings are exactly the texts among that
pub record IsBuild (bytes source : List ℕ) (globals : Globals) : Type 0 where
  pub strings : List (List ℕ)
  pub denotes : Denotes bytes source strings (properties_of globals)
  pub exact : AreOf strings (texts_of (properties_of globals))
