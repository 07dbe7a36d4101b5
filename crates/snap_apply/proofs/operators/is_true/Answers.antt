use Rattle.std.proofs.Common.{refl}
use Rattle.spec_values.specs.Conversions.{truth_of}
use Rattle.snap_action.proofs.Follows.{unmet}
use Rattle.snap_action.proofs.Growing.{give_grows}
use Rattle.snap_apply.proofs.operators.is_true.Goals as goal

pub returns-in_err-value-in-None : goal.returns-in_err-value-in-None
returns-in_err-value-in-None g c =
    let store = c.args.store.now in
    unmet (record { view = refl; later = g.met.S.Store.at_once store }) (give_grows (truth_of (g.S.Store.meaning store c.args.held.now))) c.from_residual.result c.from_residual.ensures.1
