use Rattle.std.proofs.Common.{ℕ, ◌≤◌, List, ◌++◌, length, map, reverse}
use Rattle.snap_blob.specs.Steps.{pair_of}
use Rattle.spec_format.specs.Shapes.{HasKeys}
use Rattle.snap_ctxfmt.proofs.shape_keys.keys_of.Given as goal

abbrev pub invariant-loop-at : goal.invariant-loop-at
invariant-loop-at l =
    record {
      within : l.at ≤ length l.shapes;
      whole : (front : List ℕ) → HasKeys (map pair_of l.shapes) l.at front → HasKeys (map pair_of l.shapes) l.shape (front ++ reverse l.keys.items);
    }

abbrev pub decreases-loop-at : goal.decreases-loop-at
decreases-loop-at l = l.at
