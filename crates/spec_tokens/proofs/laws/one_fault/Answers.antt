use Rattle.std.proofs.Common.{◌≡◌, ℕ, List, Result, Err}
use Rattle.spec_tokens.proofs.Faults.{fault_is_read}
use Rattle.spec_tokens.proofs.Reading.{list_is_read}
use Rattle.spec_tokens.proofs.Sound.{no_list}
use Rattle.spec_tokens.specs.Faults.{HasFault, LacksPiece}
use Rattle.spec_tokens.specs.Faults as why
use Rattle.spec_tokens.specs.Tokens.{Lexeme}
use Rattle.spec_tokens.specs.declared.fault.LexFault.{LexFault}
use Rattle.spec_tokens.specs.declared.fault.LexFault.TheVariants.{NoMemory}
use Rattle.spec_tokens.proofs.laws.one_fault.Goals as goal

one_answer : (read : Result (List Lexeme) LexFault) (fault other : LexFault) → read ≡ Err fault → read ≡ Err other → fault ≡ other
one_answer read fault other is is_other = cc

no_memory : (at : ℕ) (left : List ℕ) → LacksPiece at left NoMemory → ⊥
no_memory at left (why.NoFirst b rest left_is none fault_is) = cc
no_memory at left (why.LargeNumber text rest left_is is large fault_is) = cc
no_memory at left (why.NumberTail text b rest left_is is small tail fault_is) = cc
no_memory at left (why.OpenText quote items rest left_is is are over fault_is) = cc
no_memory at left (why.NoItem quote items b rest left_is is are none fault_is) = cc
no_memory at left (why.OpenComment body left_is open_body fault_is) = cc
no_memory at left (why.NoSource body b rest left_is open_body none fault_is) = cc

pub returns-clause-one : goal.returns-clause-one
returns-clause-one c = λ source fault other has has_other.
    one_answer _ fault other (fault_is_read source fault has) (fault_is_read source other has_other)

pub returns-clause-none : goal.returns-clause-none
returns-clause-none c = λ source list fault are has. no_list _ list fault (list_is_read source list are) (fault_is_read source fault has)

pub returns-clause-memory : goal.returns-clause-memory
returns-clause-memory c = λ source has. no_memory _ has.left has.lacks
