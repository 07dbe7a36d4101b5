use Rattle.spec_values.specs.Answer.{give}
use Rattle.snap_action.proofs.Follows.{at_same}
use Rattle.snap_action.proofs.literals.hold_literal.Goals as goal

pub returns-in-Some-clause-gives : goal.returns-in-Some-clause-gives
returns-in-Some-clause-gives g c = at_same give (c.requires.known c.in-Some.held c.in-Some.is).1 c.hold_again.ensures.gives
