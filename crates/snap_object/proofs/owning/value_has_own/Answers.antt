use Rattle.std.proofs.Common.{refl, sym, ⊎_elim}
use Rattle.snap_base.specs.declared.stop.Stop.TheVariants.{NotInProfile}
use Rattle.snap_graph.specs.declared.value.Value.TheVariants.{Text}
use Rattle.spec_values.specs.Asking.{has_own}
use Rattle.snap_action.proofs.Follows.{at_same, stopped}
use Rattle.snap_object.proofs.Finding.{nothing_so}
use Rattle.snap_object.proofs.owning.value_has_own.Goals as goal

pub returns-in-Undefined-clause-gives : goal.returns-in-Undefined-clause-gives
returns-in-Undefined-clause-gives g c =
    ⊎_elim
    (λ e. at_same (λ base. has_own base (Text c.args.name.now.text)) (sym e) (nothing_so (Text c.args.name.now.text) c.nothing_owned.ensures.gives))
    (λ e. at_same (λ base. has_own base (Text c.args.name.now.text)) (sym e) (nothing_so (Text c.args.name.now.text) c.nothing_owned.ensures.gives))
    c.in-Undefined.is

pub returns-in-Empty-clause-gives : goal.returns-in-Empty-clause-gives
returns-in-Empty-clause-gives g c = at_same (λ base. has_own base (Text c.args.name.now.text)) (sym c.in-Empty.is) (stopped (record { view = refl; later = g.met.S.Store.at_once c.args.store.now }) NotInProfile)
