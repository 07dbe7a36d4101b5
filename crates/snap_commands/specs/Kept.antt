-- The globals that a blob was found to hold, without the places of names and texts in memory.
use Rattle.std.specs.Prelude.{◌≢◌, ℕ, AllPairs, List, Result, Ok, Err, map}
use Rattle.snap_graph.specs.declared.value.Property.{Property}
use Rattle.snap_graph.specs.declared.value.Value.{Value}
use Rattle.snap_graph.specs.declared.value.Value.TheVariants as value
use Rattle.snap_commands.specs.declared.fault.Fault.{Fault}
use Rattle.snap_commands.specs.declared.kept.Kept.{Kept}
use Rattle.snap_commands.specs.declared.kept.Loaded.{Loaded}
use Rattle.snap_commands.specs.declared.kept.KeptValue.{KeptValue}
use Rattle.snap_commands.specs.declared.kept.KeptValue.TheVariants as kept
use Rattle.snap_commands.specs.Thin.{Globals}
use Rattle.snap_commands.specs.ThinBlob.{IsThinGlobal}
use Rattle.spec_format.specs.Number.{AreBytes}
use Rattle.spec_sections.specs.Properties.{IsSafe}

abbrev pub kept_value : KeptValue → Value
kept_value kept.Undefined = value.Undefined
kept_value kept.Null = value.Null
kept_value (kept.Bool b) = value.Bool b
kept_value (kept.Int z) = value.Int z
kept_value (kept.Text text) = value.Text text.items

abbrev pub kept_global : Kept → List ℕ × Value
kept_global k = (k.name.items, kept_value k.value)

abbrev pub kept_globals : List Kept → Globals
kept_globals list = map kept_global list

-- the globals of what was loaded
abbrev pub globals_in : Result Loaded Fault → Result Globals Fault
globals_in (Ok loaded) = Ok (kept_globals loaded.globals.items)
globals_in (Err fault) = Err fault

-- no name stands twice
abbrev pub AreApart : Globals → Type 0
AreApart globals = AllPairs (λ one other. one ≢ other) (map (λ global. global.0) globals)

-- a value of a blob: an integer is safe, and a text has units of one byte
abbrev pub IsHeld : Value → Type 0
IsHeld value.Undefined = Unit {0}
IsHeld value.Null = Unit {0}
IsHeld (value.Bool b) = Unit {0}
IsHeld (value.Int z) = IsSafe z
IsHeld (value.Text text) = AreBytes text
IsHeld (value.Node node) = Unit {0}
IsHeld value.Empty = Unit {0}

-- a property of a blob: its key has units of one byte, too
abbrev pub StandsInBlob : Property → Type 0
StandsInBlob property = AreBytes property.key × IsHeld property.value

-- the global that a property is
abbrev pub global_of : Property → List ℕ × Value
global_of property = (property.key, property.value)

-- a property that is a global of a thin blob
abbrev pub IsThinProperty : Property → Type 0
IsThinProperty property = IsThinGlobal (global_of property)
