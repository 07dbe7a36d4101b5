use Rattle.std.proofs.Common.{refl}
use Rattle.spec_grammar.proofs.Computing.{computing}
use Rattle.spec_grammar.proofs.rows.worked_lists.Goals as goal

pub returns-clause-last : goal.returns-clause-last
unfolding computing
returns-clause-last c = (refl, refl)

pub returns-clause-lone : goal.returns-clause-lone
unfolding computing
returns-clause-lone c = refl

pub returns-clause-names : goal.returns-clause-names
unfolding computing
returns-clause-names c = (refl, refl)

pub returns-clause-properties : goal.returns-clause-properties
unfolding computing
returns-clause-properties c = (refl, refl)
