use Rattle.std.proofs.Common.{refl}
use Rattle.spec_grammar.proofs.Computing.{computing}
use Rattle.spec_grammar.proofs.rows.worked_semicolons.Goals as goal

pub returns-clause-update : goal.returns-clause-update
unfolding computing
returns-clause-update c = (refl, refl)

pub returns-clause-thrown : goal.returns-clause-thrown
unfolding computing
returns-clause-thrown c = refl

pub returns-clause-returned : goal.returns-clause-returned
unfolding computing
returns-clause-returned c = (refl, refl)

pub returns-clause-call : goal.returns-clause-call
unfolding computing
returns-clause-call c = (refl, refl)

pub returns-clause-arrow : goal.returns-clause-arrow
unfolding computing
returns-clause-arrow c = refl

pub returns-clause-head : goal.returns-clause-head
unfolding computing
returns-clause-head c = refl
