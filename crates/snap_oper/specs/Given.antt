-- What is given to an operator, and what comes of it.
use Rattle.std.specs.Prelude.{◌≡◌, Result, Ok, Err}
use Rattle.snap_base.specs.declared.stop.Stop.{Stop}
use Rattle.snap_graph.specs.declared.value.Value.{Value}
use Rattle.snap_graph.specs.declared.value.Value.TheVariants.{Undefined, Null, Bool, Int, Text, Node, Empty}
use Rattle.snap_graph.specs.Values.{IsSafe}
use Rattle.snap_oper.specs.declared.fault.OperFault.{OperFault}
use Rattle.snap_oper.specs.declared.fault.OperFault.TheVariants.{Stopped, NoMemory}

-- a value that an operator may be given: its integer is safe, and the mark of an empty place is no value
abbrev pub IsOperand : Value → Type 0
IsOperand Undefined = Unit {0}
IsOperand Null = Unit {0}
IsOperand (Bool b) = Unit {0}
IsOperand (Int z) = IsSafe z
IsOperand (Text text) = Unit {0}
IsOperand (Node node) = Unit {0}
IsOperand Empty = ⊥

-- what is answered is what is defined, or that memory was refused
abbrev pub Answers : Result Value OperFault → Result Value Stop → Type 0
Answers (Ok value) defined = defined ≡ Ok value
Answers (Err (Stopped stop)) defined = defined ≡ Err stop
Answers (Err NoMemory) defined = Unit {0}
