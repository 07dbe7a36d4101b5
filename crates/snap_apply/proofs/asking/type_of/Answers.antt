use Rattle.std.proofs.Common.{refl}
use Rattle.spec_values.specs.Asking.{type_of}
use Rattle.snap_action.proofs.Follows.{at_same, unmet}
use Rattle.snap_apply.proofs.Types.{type_of_grows}
use Rattle.snap_apply.proofs.asking.type_of.Goals as goal

pub returns-in_err-value : goal.returns-in_err-value
returns-in_err-value g c =
    let store = c.args.store.now in
    unmet (record { view = refl; later = g.met.S.Store.at_once store }) (type_of_grows (g.S.Store.meaning store c.args.held.now)) c.from_residual.result c.from_residual.ensures.1

pub returns : goal.returns
returns g c = at_same type_of c.in_ok-value.ensures c.type_of_value.ensures
