use Rattle.std.proofs.Common.{◌≤◌, length, map}
use Rattle.snap_blob.specs.OpenShapes.{IsMarked}
use Rattle.snap_blob.specs.Steps.{pair_of}
use Rattle.snap_blob.proofs.shape_walk.climb.Given as goal

abbrev pub invariant-loop-reached : goal.invariant-loop-reached
invariant-loop-reached l = record {
  within : l.reached ≤ length l.shapes;
  marked : IsMarked (map pair_of l.shapes) l.reached l.marks;
}

abbrev pub decreases-loop-reached : goal.decreases-loop-reached
decreases-loop-reached l = l.reached
