-- The texts of values, where they stand.
use Rattle.std.specs.Prelude.{◌≡◌, ℕ, Bool, true, false, List, Result, Ok, Err}
use Rattle.snap_base.specs.declared.stop.Stop.{Stop}
use Rattle.snap_graph.specs.declared.value.Value.{Value}
use Rattle.snap_graph.specs.declared.value.Value.TheVariants.{Undefined, Null, Bool as Truth, Int, Text, Node, Empty}
use Rattle.snap_oper.specs.declared.fault.OperFault.{OperFault}
use Rattle.snap_oper.specs.declared.fault.OperFault.TheVariants.{Stopped, NoMemory}
use Rattle.snap_oper.specs.declared.joining.SpelledText.{SpelledText}
use Rattle.snap_oper.specs.declared.joining.SpelledText.TheVariants.{Standing, Made}

-- a text among values
abbrev pub is_text : Value → Bool
is_text Undefined = false
is_text Null = false
is_text (Truth b) = false
is_text (Int z) = false
is_text (Text text) = true
is_text (Node node) = false
is_text Empty = false

-- the units of a spelled text
abbrev pub text_in : SpelledText → List ℕ
text_in (Standing text) = text.now
text_in (Made text) = text

-- the text that is spelled is the one that is defined, or memory was refused
abbrev pub Spells : Result SpelledText OperFault → Result (List ℕ) Stop → Type 0
Spells (Ok text) defined = defined ≡ Ok (text_in text)
Spells (Err (Stopped stop)) defined = defined ≡ Err stop
Spells (Err NoMemory) defined = Unit {0}

-- the text that is answered is the one that is defined, or memory was refused
abbrev pub IsText : Result (List ℕ) OperFault → Result (List ℕ) Stop → Type 0
IsText (Ok text) defined = defined ≡ Ok text
IsText (Err (Stopped stop)) defined = defined ≡ Err stop
IsText (Err NoMemory) defined = Unit {0}
