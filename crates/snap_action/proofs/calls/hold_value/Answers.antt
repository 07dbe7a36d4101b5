use Rattle.snap_action.proofs.Follows.{unmet}
use Rattle.snap_action.proofs.Growing.{give_grows}
use Rattle.snap_action.proofs.calls.hold_value.Goals as goal

pub returns-in_err-hold-clause-gives : goal.returns-in_err-hold-clause-gives
returns-in_err-hold-clause-gives g c = let h = c.in_err-hold.ensures in unmet (record { view = h.view; later = h.later }) (give_grows c.args.value.now) c.from_residual.result c.from_residual.ensures.1
