use Rattle.std.proofs.Common.{sym, subst}
use Rattle.snap_graph.specs.Lawful.{IsLawful}
use Rattle.snap_graph.proofs.Fitting.{lawful_intrinsics}
use Rattle.snap_store.proofs.plain_heap.PlainHeap.new.Goals as goal

pub of-requires : goal.of-requires
of-requires c = subst IsLawful (sym c.in-Ok.ensures) lawful_intrinsics
