use Rattle.snap_action.proofs.Called.{put_refused}
use Rattle.snap_action.proofs.calls.put_property.Goals as goal

pub returns-in_err-put_own : goal.returns-in_err-put_own
returns-in_err-put_own g c = let h = c.in_err-put_own.ensures in
    put_refused c.args.node c.args.text.now _ c.in_err-put_own.field-0.0 (h.fault c.args.text.now c.requires.key) (record { view = h.err; later = h.later }) c.from_residual.result c.from_residual.ensures.1
