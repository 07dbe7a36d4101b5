use Rattle.std.proofs.Common.{sym}
use Rattle.spec_values.specs.Access.{or_stop}
use Rattle.snap_action.proofs.Follows.{at_same}
use Rattle.snap_apply.proofs.operators.hold_judgement.Goals as goal

pub returns-in-Some-clause-gives : goal.returns-in-Some-clause-gives
returns-in-Some-clause-gives g c = at_same or_stop (sym c.in-Some.ensures) c.hold_value.ensures.gives
