use Rattle.snap_graph.proofs.Fitting.{frozen_intrinsics, intrinsic_count, lawful_intrinsics, numbered_intrinsics}
use Rattle.snap_graph.proofs.laws.intrinsics_are_a_heap.Goals as goal

pub returns : goal.returns
returns c = record { count = intrinsic_count; lawful = lawful_intrinsics; frozen = frozen_intrinsics; numbered = numbered_intrinsics }
