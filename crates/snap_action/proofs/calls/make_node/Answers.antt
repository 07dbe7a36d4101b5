use Rattle.snap_action.proofs.Called.{make_refused}
use Rattle.snap_action.proofs.calls.make_node.Goals as goal

pub returns-in_err-make-clause-gives : goal.returns-in_err-make-clause-gives
returns-in_err-make-clause-gives g c = let h = c.in_err-make.ensures in
    make_refused c.args.kind _ c.in_err-make.field-0.0 h.fault (record { view = h.err; later = h.later }) c.from_residual.result c.from_residual.ensures.1
