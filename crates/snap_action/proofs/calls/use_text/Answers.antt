use Rattle.snap_action.proofs.Follows.{unmet}
use Rattle.snap_action.proofs.Growing.{use_grows}
use Rattle.snap_action.proofs.calls.use_text.Goals as goal

pub returns-in_err-key-clause-gives : goal.returns-in_err-key-clause-gives
returns-in_err-key-clause-gives g c = let h = c.in_err-key.ensures in unmet (record { view = h.err; later = h.later }) (use_grows c.args.text.now) c.from_residual.result c.from_residual.ensures.1
