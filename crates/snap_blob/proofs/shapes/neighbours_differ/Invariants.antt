use Rattle.std.proofs.Common.{◌≢◌}
use Rattle.std.specs.List.{AllAdjacentBelow}
use Rattle.snap_blob.proofs.shapes.neighbours_differ.Given as goal

abbrev pub invariant-loop-i : goal.invariant-loop-i
invariant-loop-i l = AllAdjacentBelow (λ one other. one ≢ other) l.shapes l.i
