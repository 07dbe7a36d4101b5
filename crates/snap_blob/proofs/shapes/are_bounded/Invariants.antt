use Rattle.std.proofs.Common.{ℕ, ◌<◌, ◌≤◌, get_or}
use Rattle.snap_blob.specs.declared.startups.ShapeStep.{ShapeStep}
use Rattle.snap_blob.proofs.shapes.are_bounded.Given as goal

abbrev pub invariant-loop-n : goal.invariant-loop-n
invariant-loop-n l = (k : ℕ) (d : ShapeStep) → k < l.n → ((get_or l.shapes k d).parent ≤ k) × ((get_or l.shapes k d).name < l.strings)
