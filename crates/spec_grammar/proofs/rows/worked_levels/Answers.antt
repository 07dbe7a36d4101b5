use Rattle.std.proofs.Common.{refl}
use Rattle.spec_grammar.proofs.Computing.{computing}
use Rattle.spec_grammar.proofs.rows.worked_levels.Goals as goal

pub returns-clause-most : goal.returns-clause-most
unfolding computing
returns-clause-most c = refl

pub returns-clause-more : goal.returns-clause-more
unfolding computing
returns-clause-more c = refl
