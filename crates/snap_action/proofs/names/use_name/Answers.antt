use Rattle.snap_action.proofs.Follows.{unmet}
use Rattle.snap_action.proofs.Growing.{use_grows}
use Rattle.snap_action.proofs.names.use_name.Goals as goal

pub returns-in_err-used-in-Some-clause-gives : goal.returns-in_err-used-in-Some-clause-gives
returns-in_err-used-in-Some-clause-gives g c = let h = c.in_err-used-in-Some.ensures in
    unmet (record { view = h.err; later = h.later }) (use_grows c.args.name.now.text) c.from_residual.result c.from_residual.ensures.1

pub returns-in_err-key-in-None-clause-gives : goal.returns-in_err-key-in-None-clause-gives
returns-in_err-key-in-None-clause-gives g c = let h = c.in_err-key-in-None.ensures in
    unmet (record { view = h.err; later = h.later }) (use_grows c.args.name.now.text) c.from_residual-in_err-key-in-None.result c.from_residual-in_err-key-in-None.ensures.1
