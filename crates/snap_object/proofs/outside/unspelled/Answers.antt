use Rattle.std.proofs.Common.{refl, sym, ⊎_elim}
use Rattle.snap_action.proofs.Follows.{at_same, stopped}
use Rattle.snap_base.specs.declared.stop.Stop.TheVariants.{NotInProfile}
use Rattle.snap_object.specs.Parts.{unspelled}
use Rattle.snap_object.proofs.Finding.{unspelled_stops}
use Rattle.snap_object.proofs.outside.unspelled.Goals as goal

pub returns-in-Undefined : goal.returns-in-Undefined
returns-in-Undefined g c = ⊎_elim (λ e. at_same unspelled (sym e) c.type_error.ensures) (λ e. at_same unspelled (sym e) c.type_error.ensures) c.in-Undefined.is

pub returns-in_default : goal.returns-in_default
returns-in_default g c = at_same (λ action. action) (sym (unspelled_stops c.args.base.now c.in_default.not-Undefined c.in_default.not-Null)) (stopped (record { view = refl; later = g.met.S.Store.at_once c.args.store.now }) NotInProfile)
