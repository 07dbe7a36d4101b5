use Rattle.snap_action.proofs.Follows.{unmet}
use Rattle.snap_action.proofs.Growing.{remove_grows}
use Rattle.snap_action.proofs.calls.remove_property.Goals as goal

pub returns-in_err-remove_own : goal.returns-in_err-remove_own
returns-in_err-remove_own g c = let h = c.in_err-remove_own.ensures in
    unmet (record { view = h.err; later = h.later }) (remove_grows c.args.node c.args.text.now) c.from_residual.result c.from_residual.ensures.1
