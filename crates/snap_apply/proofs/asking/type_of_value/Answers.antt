use Rattle.std.proofs.Common.{refl, sym}
use Rattle.snap_base.specs.declared.stop.Stop.TheVariants.{NotInProfile}
use Rattle.spec_values.specs.Asking.{type_of}
use Rattle.snap_action.proofs.Follows.{at_same, stopped}
use Rattle.snap_apply.proofs.asking.type_of_value.Goals as goal

pub returns-in-Empty : goal.returns-in-Empty
returns-in-Empty g c = at_same type_of (sym c.in-Empty.is) (stopped (record { view = refl; later = g.met.S.Store.at_once c.args.store.now }) NotInProfile)

pub returns-in-Node : goal.returns-in-Node
returns-in-Node g c = at_same type_of (sym c.in-Node.is) c.type_of_node.ensures
