use Rattle.std.proofs.Common.{codes, None, Some, refl, ◌∙◌}
use Rattle.snap_graph.specs.declared.intrinsic.TheConstants.{TYPE_ERROR_PROTOTYPE}
use Rattle.snap_action.proofs.Follows.{unmet}
use Rattle.snap_action.proofs.Throwing.{threw}
use Rattle.snap_object.proofs.Growing.{size_of_grows}
use Rattle.snap_object.proofs.Sizing.{sized}
use Rattle.snap_object.proofs.sizes.size_of.Goals as goal

pub returns-in_err-count-clause-gives : goal.returns-in_err-count-clause-gives
returns-in_err-count-clause-gives g c = unmet (record { view = refl; later = g.met.S.Store.at_once c.args.store.now }) (size_of_grows c.args.prototype c.args.base.now) c.from_residual.result c.from_residual.ensures.1

pub returns-in-Some-clause-gives : goal.returns-in-Some-clause-gives
returns-in-Some-clause-gives g c = sized c.args.prototype c.args.base.now (Some c.in-Some.count) (c.in_ok-count.ensures ∙ c.in-Some.is) c.hold_count.ensures.gives

pub returns-in-None-clause-gives : goal.returns-in-None-clause-gives
returns-in-None-clause-gives g c = sized c.args.prototype c.args.base.now None (c.in_ok-count.ensures ∙ c.in-None.is) (threw TYPE_ERROR_PROTOTYPE (codes "wrong receiver") c.type_error.ensures)
