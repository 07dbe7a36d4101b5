use Rattle.std.proofs.Common.{refl}
use Rattle.spec_grammar.proofs.Computing.{computing}
use Rattle.spec_grammar.proofs.rows.worked_operators.Goals as goal

pub returns-clause-left : goal.returns-clause-left
unfolding computing
returns-clause-left c = (refl, refl)

pub returns-clause-tight : goal.returns-clause-tight
unfolding computing
returns-clause-tight c = (refl, refl)

pub returns-clause-update : goal.returns-clause-update
unfolding computing
returns-clause-update c = refl

pub returns-clause-deleted : goal.returns-clause-deleted
unfolding computing
returns-clause-deleted c = refl

pub returns-clause-call : goal.returns-clause-call
unfolding computing
returns-clause-call c = refl
