use Rattle.std.proofs.Common.{refl}
use Rattle.snap_action.proofs.Follows.{unmet}
use Rattle.snap_apply.proofs.Types.{callable_grows}
use Rattle.snap_apply.proofs.asking.is_callable.Goals as goal

pub returns-in_err-node : goal.returns-in_err-node
returns-in_err-node g c =
    let store = c.args.store.now in
    unmet (record { view = refl; later = g.met.S.Store.at_once store }) (callable_grows (g.S.Store.meaning store c.args.held.now)) c.from_residual.result c.from_residual.ensures.1
