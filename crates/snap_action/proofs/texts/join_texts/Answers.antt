use Rattle.snap_store.specs.Calls.{units_in}
use Rattle.snap_action.proofs.Joining.{join_refused}
use Rattle.snap_action.proofs.texts.join_texts.Goals as goal

pub returns-in_err-join-clause-gives : goal.returns-in_err-join-clause-gives
returns-in_err-join-clause-gives g c =
    let h = c.in_err-join.ensures in
    let store = c.args.store.now in
    join_refused (units_in (g.S.Store.meaning store c.args.left.now)) (units_in (g.S.Store.meaning store c.args.right.now)) c.in_err-join.field-0.0 h.fault (record { view = h.view; later = h.later }) c.from_residual.result c.from_residual.ensures.1
