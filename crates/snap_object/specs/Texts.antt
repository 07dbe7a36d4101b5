-- Bases and keys that are texts.
use Rattle.std.specs.Prelude.{◌≡◌, Bool, true, false, [], None}
use Rattle.snap_graph.specs.declared.value.Value.{Value}
use Rattle.snap_graph.specs.declared.value.Value.TheVariants.{Undefined, Null, Bool as Truth, Int, Node as At, Text, Empty}
use Rattle.snap_action.specs.Names.{Named}

-- a value, but for the units of a text
abbrev pub without_units : Value → Value
without_units Undefined = Undefined
without_units Null = Null
without_units (Truth b) = Truth b
without_units (Int z) = Int z
without_units (Text text) = Text []
without_units (At number) = At number
without_units Empty = Empty

-- a name is that of a key which is a text, and no store was asked for its key yet; or the key may be another value
abbrev pub IsNamedBy : Value → Named → Bool → Type 0
IsNamedBy key name true = (key ≡ Text name.text) × (name.key ≡ None)
IsNamedBy key name false = Unit {0}
