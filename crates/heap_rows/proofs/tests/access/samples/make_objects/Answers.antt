use Rattle.snap_action.specs.declared.errors.ErrorKind.TheVariants.{TypeError}
use Rattle.snap_action.proofs.Called.{error_is_there}
use Rattle.heap_rows.proofs.tests.access.samples.make_objects.Goals as goal

pub loop-row-init : goal.loop-row-init
loop-row-init g c = error_is_there TypeError (g.S.Store.view c.args.store.now).nodes (g.met.S.Store.lawful c.args.store.now)
