use Rattle.std.proofs.Common.{◌≡◌, suc, length}
use Rattle.snap_blob.proofs.visits.sizes.Given as goal

abbrev pub invariant-loop-n : goal.invariant-loop-n
invariant-loop-n l = length l.sizes.items ≡ suc (length l.shapes)
