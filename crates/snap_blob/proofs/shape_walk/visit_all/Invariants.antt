use Rattle.std.proofs.Common.{ℕ, ◌<◌, ◌≤◌, get_or, length, map}
use Rattle.snap_blob.specs.declared.visits.Visit.{Visit}
use Rattle.snap_blob.specs.OpenShapes.{IsFresh, IsMarked}
use Rattle.snap_blob.specs.Steps.{pair_of}
use Rattle.snap_blob.proofs.shape_walk.visit_all.Given as goal

abbrev pub invariant-loop-visit : goal.invariant-loop-visit
invariant-loop-visit l = record {
  within : l.top ≤ length l.shapes;
  marked : IsMarked (map pair_of l.shapes) l.top l.marks;
  fresh : (k : ℕ) (d : Visit) → k < l.visit-index → IsFresh (map pair_of l.shapes) (get_or l.visits k d).shape;
}
