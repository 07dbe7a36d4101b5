use Rattle.std.proofs.Common.{arith}
use Rattle.snap_scope.proofs.NarrowNames.{item_narrow}
use Rattle.snap_scope.proofs.places.put_all.Goals as goal

pub put_place-requires-clause-narrow : goal.put_place-requires-clause-narrow
put_place-requires-clause-narrow c = item_narrow c.args.names.now c.loop-name.name-index c.name-item.result (omega arith) c.name-item.is c.requires.narrow
