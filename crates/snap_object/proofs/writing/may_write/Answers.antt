use Rattle.std.proofs.Common.{refl}
use Rattle.snap_action.proofs.Follows.{unmet}
use Rattle.snap_object.proofs.Growing.{may_write_from_grows}
use Rattle.snap_object.proofs.Putting.{may}
use Rattle.snap_object.proofs.writing.may_write.Goals as goal

pub returns-in_err-found-clause-gives : goal.returns-in_err-found-clause-gives
returns-in_err-found-clause-gives g c = unmet (record { view = refl; later = g.met.S.Store.at_once c.args.store.now }) (may_write_from_grows c.args.name.now c.args.node) c.from_residual.result c.from_residual.ensures.1

pub returns-clause-gives : goal.returns-clause-gives
returns-clause-gives g c = may c.args.name.now c.args.node _ c.in_ok-found.ensures.found c.may_pass.ensures.gives
