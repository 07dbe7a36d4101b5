use Rattle.std.proofs.Common.{refl}
use Rattle.snap_action.proofs.Follows.{unmet}
use Rattle.snap_action.proofs.Growing.{give_grows}
use Rattle.snap_action.proofs.calls.read_value.Goals as goal

pub returns-in_err-value-clause-gives : goal.returns-in_err-value-clause-gives
returns-in_err-value-clause-gives g c =
    let store = c.args.store.now in
    unmet (record { view = refl; later = g.met.S.Store.at_once store }) (give_grows (g.S.Store.meaning store c.args.held.now)) c.from_residual.result c.from_residual.ensures.1
