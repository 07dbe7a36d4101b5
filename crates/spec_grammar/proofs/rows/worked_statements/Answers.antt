use Rattle.std.proofs.Common.{refl}
use Rattle.spec_grammar.proofs.Computing.{computing}
use Rattle.spec_grammar.proofs.rows.worked_statements.Goals as goal

pub returns-clause-nearest : goal.returns-clause-nearest
unfolding computing
returns-clause-nearest c = (refl, refl)

pub returns-clause-of_name : goal.returns-clause-of_name
unfolding computing
returns-clause-of_name c = (refl, refl)

pub returns-clause-constant : goal.returns-clause-constant
unfolding computing
returns-clause-constant c = refl

pub returns-clause-declared : goal.returns-clause-declared
unfolding computing
returns-clause-declared c = refl
