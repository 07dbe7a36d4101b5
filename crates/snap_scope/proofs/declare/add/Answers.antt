use Rattle.std.proofs.Common.{subst, sym}
use Rattle.snap_scope.specs.Names.{IsNarrow}
use Rattle.snap_scope.proofs.declare.add.Goals as goal

pub narrow-requires : goal.narrow-requires
narrow-requires c = subst IsNarrow (sym c.units.ensures) c.requires
