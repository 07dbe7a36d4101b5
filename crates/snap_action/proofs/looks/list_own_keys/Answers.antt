use Rattle.std.proofs.Common.{refl}
use Rattle.spec_values.specs.Operations.{own_keys_of}
use Rattle.snap_action.proofs.Follows.{unmet}
use Rattle.snap_action.proofs.Growing.{see_grows}
use Rattle.snap_action.proofs.looks.list_own_keys.Goals as goal

pub returns-in_err-own_keys : goal.returns-in_err-own_keys
returns-in_err-own_keys g c =
    unmet (record { view = refl; later = g.met.S.Store.at_once c.args.store.now }) (see_grows (λ nodes. own_keys_of nodes c.args.node)) c.from_residual.result c.from_residual.ensures.1
