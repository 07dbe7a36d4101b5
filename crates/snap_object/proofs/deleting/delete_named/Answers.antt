use Rattle.std.proofs.Common.{refl, sym, codes, true, false, ◌∙◌}
use Rattle.snap_base.specs.declared.stop.Stop.TheVariants.{NotInProfile}
use Rattle.snap_graph.specs.declared.intrinsic.TheConstants.{TYPE_ERROR_PROTOTYPE}
use Rattle.snap_action.proofs.Follows.{stopped}
use Rattle.snap_action.proofs.Throwing.{threw}
use Rattle.snap_object.proofs.Removing.{by_tests, outside_first}
use Rattle.snap_object.proofs.deleting.delete_named.Goals as goal

pub returns-then-is_outside : goal.returns-then-is_outside
returns-then-is_outside g c = outside_first c.args.node c.args.name.now (sym c.is_outside.ensures ∙ c.if-is_outside.true) (stopped (record { view = refl; later = g.met.S.Store.at_once c.args.store.now }) NotInProfile)

pub returns-then-is_kept : goal.returns-then-is_kept
returns-then-is_kept g c =
    by_tests c.args.node c.args.name.now false true (sym c.is_outside.ensures ∙ c.if-is_outside.false) (sym c.is_kept.ensures ∙ c.if-is_kept.true) (threw TYPE_ERROR_PROTOTYPE (codes "not writable") c.type_error.ensures)

pub returns : goal.returns
returns g c = by_tests c.args.node c.args.name.now false false (sym c.is_outside.ensures ∙ c.if-is_outside.false) (sym c.is_kept.ensures ∙ c.if-is_kept.false) c.removed.ensures
