use Rattle.std.proofs.Common.{refl}
use Rattle.snap_action.proofs.Follows.{unmet}
use Rattle.snap_object.proofs.Growing.{has_own_grows}
use Rattle.snap_object.proofs.owning.has_own_by_key.Goals as goal

pub returns-in_err-named_by : goal.returns-in_err-named_by
returns-in_err-named_by g c =
    let store = c.args.store.now in
    let base = g.S.Store.meaning store c.args.base.now in
    let key = g.S.Store.meaning store c.args.key.now in
    unmet (record { view = refl; later = g.met.S.Store.at_once store }) (has_own_grows base key) c.from_residual.result c.from_residual.ensures.1

pub returns-in_err-key : goal.returns-in_err-key
returns-in_err-key g c =
    let store = c.args.store.now in
    let base = g.S.Store.meaning store c.args.base.now in
    let key = g.S.Store.meaning store c.args.key.now in
    unmet (record { view = refl; later = g.met.S.Store.at_once store }) (has_own_grows base key) c.from_residual-in_err-key.result c.from_residual-in_err-key.ensures.1
