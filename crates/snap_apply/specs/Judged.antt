-- Operators other than `+`, where a text is given.
use Rattle.std.specs.Prelude.{Bool, Option, None, Some, Result, Ok, Err}
use Rattle.snap_base.specs.declared.stop.Stop.{Stop}
use Rattle.snap_base.specs.declared.stop.Stop.TheVariants.{NotInProfile}
use Rattle.snap_graph.specs.declared.value.Value.{Value}
use Rattle.snap_graph.specs.declared.value.Value.TheVariants.{Bool as Truth, Text}
use Rattle.spec_values.specs.Conversions.{text_of}
use Rattle.spec_values.specs.Operators.{◌>>=◌}

-- a truth value as a value; where there is none a number was wanted, which no text has in this profile
abbrev pub judged : Option Bool → Result Value Stop
judged None = Err NotInProfile
judged (Some b) = Ok (Truth b)

-- the text of a value, as a value
abbrev pub spelled : Value → Result Value Stop
spelled value = text_of value >>= λ text. Ok (Text text)
