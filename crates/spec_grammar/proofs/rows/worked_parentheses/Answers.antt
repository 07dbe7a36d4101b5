use Rattle.std.proofs.Common.{refl}
use Rattle.spec_grammar.proofs.Computing.{computing}
use Rattle.spec_grammar.proofs.rows.worked_parentheses.Goals as goal

pub returns-clause-places : goal.returns-clause-places
unfolding computing
returns-clause-places c = refl

pub returns-clause-target : goal.returns-clause-target
unfolding computing
returns-clause-target c = refl

pub returns-clause-operand : goal.returns-clause-operand
unfolding computing
returns-clause-operand c = (refl, refl)

pub returns-clause-many : goal.returns-clause-many
unfolding computing
returns-clause-many c = refl
