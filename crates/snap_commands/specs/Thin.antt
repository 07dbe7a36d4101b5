-- Thin scripts: what they print, and what they leave on the global object.
use Rattle.std.specs.Prelude.{ℕ, true, false, List, [], ◌∷◌, ◌++◌, codes, if◌then◌else◌}
use Rattle.std.specs.Fmt.{signed_decimal}
use Rattle.std.specs.Str.{bytes_eq}
use Rattle.snap_graph.specs.declared.value.Value.{Value}
use Rattle.snap_graph.specs.declared.value.Value.TheVariants as value
use Rattle.snap_text.specs.Utf8.{utf8_of}
use Rattle.snap_commands.specs.declared.statement.Literal.{Literal}
use Rattle.snap_commands.specs.declared.statement.Literal.TheVariants as literal
use Rattle.snap_commands.specs.declared.statement.Statement.{Statement}
use Rattle.snap_commands.specs.declared.statement.Statement.TheVariants as statement

-- a statement: it prints a value, prints what the global object holds under a name, or sets a name
pub data ThinStatement : Type 0 where
  Log : (value : Value) → ThinStatement
  LogGlobal : (name : List ℕ) → ThinStatement
  Assign : (name : List ℕ) → (value : Value) → ThinStatement

-- what the global object holds beside its own properties: names and values, in order of first assignment
abbrev pub Globals : Type 0
Globals = List (List ℕ × Value)

-- the globals once a name is set: it keeps its place, or comes last where it is new
abbrev pub assigned : Globals → List ℕ → Value → Globals
assigned [] name value = (name, value) ∷ []
assigned (global ∷ globals) name value =
    if bytes_eq name global.0 then (global.0, value) ∷ globals else global ∷ assigned globals name value

-- what a name holds, and undefined where there is no such name
abbrev pub global_value : Globals → List ℕ → Value
global_value [] name = value.Undefined
global_value (global ∷ globals) name = if bytes_eq name global.0 then global.1 else global_value globals name

-- the text of a primitive value (ECMA-262, ToString), as UTF-8
abbrev pub text_of : Value → List ℕ
text_of value.Undefined = codes "undefined"
text_of value.Null = codes "null"
text_of (value.Bool true) = codes "true"
text_of (value.Bool false) = codes "false"
text_of (value.Int z) = signed_decimal z
text_of (value.Text text) = utf8_of text
text_of (value.Node node) = []
text_of value.Empty = []

-- what the statements print: a line for each text
abbrev pub prints : List ThinStatement → Globals → List ℕ
prints [] globals = []
prints (Log value ∷ rest) globals = (text_of value ++ codes "\n") ++ prints rest globals
prints (LogGlobal name ∷ rest) globals = (text_of (global_value globals name) ++ codes "\n") ++ prints rest globals
prints (Assign name value ∷ rest) globals = prints rest (assigned globals name value)

-- the globals that the statements leave
abbrev pub leaves : List ThinStatement → Globals → Globals
leaves [] globals = globals
leaves (Log value ∷ rest) globals = leaves rest globals
leaves (LogGlobal name ∷ rest) globals = leaves rest globals
leaves (Assign name value ∷ rest) globals = leaves rest (assigned globals name value)

-- what a literal stands for
abbrev pub value_of : Literal → Value
value_of literal.Undefined = value.Undefined
value_of literal.Null = value.Null
value_of (literal.Bool b) = value.Bool b
value_of (literal.Int z) = value.Int z
value_of (literal.Text text) = value.Text text.now

-- a statement without the places that its names and texts have in memory
abbrev pub thin_of : Statement → ThinStatement
thin_of (statement.Log l) = Log (value_of l)
thin_of (statement.LogGlobal name) = LogGlobal name.now
thin_of (statement.Assign name l) = Assign name.now (value_of l)
