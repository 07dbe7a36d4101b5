use Rattle.std.proofs.Common.{◌≤◌, ◌↔◌, length, map}
use Rattle.snap_blob.specs.OpenShapes.{HasKey}
use Rattle.snap_blob.specs.Steps.{pair_of}
use Rattle.snap_blob.proofs.shape_walk.has_key.Given as goal

abbrev pub invariant-loop-above : goal.invariant-loop-above
invariant-loop-above l = record {
  within : l.above ≤ length l.shapes;
  same : HasKey (map pair_of l.shapes) l.above l.name ↔ HasKey (map pair_of l.shapes) l.shape l.name;
}

abbrev pub decreases-loop-above : goal.decreases-loop-above
decreases-loop-above l = l.above
