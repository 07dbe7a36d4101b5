use Rattle.std.proofs.Common.{refl}
use Rattle.snap_action.proofs.Follows.{unmet}
use Rattle.snap_object.proofs.Growing.{set_grows}
use Rattle.snap_object.proofs.writing.set.Goals as goal

pub returns-in_err-base : goal.returns-in_err-base
returns-in_err-base g c = unmet (record { view = refl; later = g.met.S.Store.at_once c.args.store.now }) (set_grows (g.S.Store.meaning c.args.store.now c.args.base.now) c.args.key.now (g.S.Store.meaning c.args.store.now c.args.held.now)) c.from_residual.result c.from_residual.ensures.1
