-- Which blobs are thin, and what a run finds in them.
use Rattle.std.specs.Prelude.{◌≡◌, ◌≢◌, ℕ, ◌≤◌, Bool, true, false, not, ◌&&◌, All, List, [], ◌∷◌, Some, Result, Ok, Err, length}
use Rattle.std.specs.List.{list_all}
use Rattle.spec_format.specs.Check.{AllHold}
use Rattle.spec_format.specs.Container.{container_checks, section, section_count}
use Rattle.spec_format.specs.Strings.{node_count}
use Rattle.spec_sections.specs.Properties.{IsSafe}
use Rattle.spec_tokens.specs.Byte.{is_part, is_start}
use Rattle.spec_tokens.specs.Word.{is_reserved}
use Rattle.snap_graph.specs.declared.value.Value.{Value}
use Rattle.snap_graph.specs.declared.value.Value.TheVariants as value
use Rattle.snap_commands.specs.declared.fault.Fault.{Fault}
use Rattle.snap_commands.specs.declared.fault.Fault.TheVariants as fault
use Rattle.snap_commands.specs.Denoted.{Denotes}
use Rattle.snap_commands.specs.Properties.{properties_of}
use Rattle.snap_commands.specs.Thin.{Globals, ThinStatement}
use Rattle.snap_commands.specs.ThinSource.{is_free_name, thin_script}
use Rattle.snap_commands.specs.Plain.{IsRefused, strings_checks}

-- a name of the language: a letter, _ or $, then letters, digits, _ and $, and no reserved word
abbrev pub is_name : List ℕ → Bool
is_name [] = false
is_name (b ∷ bytes) = is_start b && list_all is_part bytes && not (is_reserved (b ∷ bytes))

-- a primitive value: integers are safe
abbrev pub IsPrimitive : Value → Type 0
IsPrimitive value.Undefined = Unit {0}
IsPrimitive value.Null = Unit {0}
IsPrimitive (value.Bool b) = Unit {0}
IsPrimitive (value.Int z) = IsSafe z
IsPrimitive (value.Text text) = Unit {0}
IsPrimitive (value.Node node) = ⊥
IsPrimitive value.Empty = ⊥

-- a global that a thin script may set
pub record IsThinGlobal (global : List ℕ × Value) : Type 0 where
  pub name : is_name global.0 ≡ true
  pub free : is_free_name global.0 ≡ true
  pub primitive : IsPrimitive global.1

-- the blob denotes a thin script and a global object with these globals behind its own properties
pub record IsThin (bytes : List ℕ) (globals : Globals) : Type 0 where
  pub script : List ℕ
  pub strings : List (List ℕ)
  pub denotes : Denotes bytes script strings (properties_of globals)
  pub statements : List ThinStatement
  pub thin_source : thin_script script ≡ Some statements
  pub thin_globals : All IsThinGlobal globals

-- a container without a fault has other sections than a thin blob, externals or nodes
pub data HasOthers (bytes : List ℕ) : Type 0 where
  Sections : AllHold (container_checks bytes) → section_count bytes ≢ 4 → HasOthers bytes
  Externals : AllHold (container_checks bytes) → section bytes 0 ≢ 0 ∷ [] → HasOthers bytes
  Nodes : AllHold (container_checks bytes) → 8 ≤ length (section bytes 1) → node_count (section bytes 1) ≢ 0 → HasOthers bytes

-- a container without a fault is not that of a thin blob
pub data IsOther (bytes : List ℕ) : Type 0 where
  Others : HasOthers bytes → IsOther bytes
  Unlike : AllHold (container_checks bytes) → AllHold (strings_checks bytes) → ((globals : Globals) → IsThin bytes globals → ⊥) → IsOther bytes

-- what a run finds in the bytes of a blob: the globals, or why there are none
abbrev pub Loads : List ℕ → Result Globals Fault → Type 0
Loads bytes (Ok globals) = IsThin bytes globals
Loads bytes (Err (fault.Blob f)) = IsRefused bytes f
Loads bytes (Err fault.NotBuilt) = IsOther bytes
Loads bytes (Err (fault.Source number refused)) = ⊥
Loads bytes (Err fault.Words) = ⊥
Loads bytes (Err fault.Read) = ⊥
Loads bytes (Err fault.NothingToRun) = ⊥
Loads bytes (Err fault.Write) = ⊥
Loads bytes (Err fault.NoMemory) = ⊥
