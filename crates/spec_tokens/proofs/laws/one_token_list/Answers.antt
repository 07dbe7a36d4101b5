use Rattle.std.proofs.Common.{◌≡◌, List, Result, Ok, Err}
use Rattle.spec_tokens.proofs.Reading.{list_is_read}
use Rattle.spec_tokens.specs.Tokens.{Lexeme}
use Rattle.spec_tokens.specs.declared.fault.LexFault.{LexFault}
use Rattle.spec_tokens.proofs.laws.one_token_list.Goals as goal

one_answer : (read : Result (List Lexeme) LexFault) (list other : List Lexeme) → read ≡ Ok list → read ≡ Ok other → list ≡ other
one_answer read list other is is_other = cc

no_fault : (read : Result (List Lexeme) LexFault) (list : List Lexeme) (fault : LexFault) → read ≡ Ok list → read ≡ Err fault → ⊥
no_fault read list fault is faulty = cc

pub returns-clause-one : goal.returns-clause-one
returns-clause-one c = λ source list other are others.
    one_answer _ list other (list_is_read source list are) (list_is_read source other others)

pub returns-clause-none : goal.returns-clause-none
returns-clause-none c = λ source list fault are faulty. no_fault _ list fault (list_is_read source list are) faulty
