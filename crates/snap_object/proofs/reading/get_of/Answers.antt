use Rattle.std.proofs.Common.{codes, refl, sym, ⊎_elim}
use Rattle.snap_base.specs.declared.stop.Stop.TheVariants.{NotInProfile}
use Rattle.snap_graph.specs.declared.intrinsic.TheConstants.{TYPE_ERROR_PROTOTYPE}
use Rattle.snap_graph.specs.declared.value.Value.TheVariants.{Text}
use Rattle.spec_values.specs.Access.{get}
use Rattle.snap_action.proofs.Follows.{at_same, stopped}
use Rattle.snap_action.proofs.Throwing.{threw}
use Rattle.snap_object.proofs.reading.get_of.Goals as goal

pub returns-in-Undefined-clause-gives : goal.returns-in-Undefined-clause-gives
returns-in-Undefined-clause-gives g c =
    ⊎_elim
    (λ e. at_same (λ base. get base (Text c.args.name.now.text)) (sym e) (threw TYPE_ERROR_PROTOTYPE (codes "no properties") c.type_error.ensures))
    (λ e. at_same (λ base. get base (Text c.args.name.now.text)) (sym e) (threw TYPE_ERROR_PROTOTYPE (codes "no properties") c.type_error.ensures))
    c.in-Undefined.is

pub returns-in-Empty-clause-gives : goal.returns-in-Empty-clause-gives
returns-in-Empty-clause-gives g c = at_same (λ base. get base (Text c.args.name.now.text)) (sym c.in-Empty.is) (stopped (record { view = refl; later = g.met.S.Store.at_once c.args.store.now }) NotInProfile)
