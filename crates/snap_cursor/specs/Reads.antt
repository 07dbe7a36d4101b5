-- What a function that reads ensures: the outcome of the definition and the tokens behind it, unless memory runs out.
use Rattle.std.specs.Prelude.{◌≡◌, ◌≢◌, List, Result, Ok, Err}
use Rattle.spec_tokens.specs.Tokens.{Lexeme}
use Rattle.spec_grammar.specs.Outcome.{Cause, Nested, Syntax, Outcome}
use Rattle.snap_cursor.specs.declared.fault.ReadFault.{ReadFault}
use Rattle.snap_cursor.specs.declared.fault.ReadFault.TheVariants as fault

abbrev pub cause_of : ReadFault → Cause
cause_of fault.Nested = Nested
cause_of other = Syntax

-- After a fault the tokens that are left begin with the one at which it shows.
abbrev pub Reads : {A : Type 0} → Outcome A → Result A ReadFault → List Lexeme → Type 0
Reads outcome (Ok a) rest = outcome ≡ Ok (a, rest)
Reads outcome (Err reason) rest = reason ≢ fault.NoMemory → outcome ≡ Err (record { cause = cause_of reason; at = rest })
