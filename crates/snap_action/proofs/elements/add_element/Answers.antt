use Rattle.snap_action.proofs.Called.{add_refused}
use Rattle.snap_action.proofs.elements.add_element.Goals as goal

pub returns-in_err-push_element : goal.returns-in_err-push_element
returns-in_err-push_element g c = let h = c.in_err-push_element.ensures in
    add_refused c.args.node _ c.in_err-push_element.field-0.0 c.requires.kind h.fault (record { view = h.err; later = h.later }) c.from_residual.result c.from_residual.ensures.1
