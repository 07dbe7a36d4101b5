use Rattle.std.proofs.Common.{◌≡◌, ℕ, suc, ◌<◌, get_or, length}
use Rattle.snap_blob.specs.declared.visits.Visit.{Visit}
use Rattle.snap_blob.proofs.visits.placed.Given as goal

abbrev pub invariant-loop-n : goal.invariant-loop-n
invariant-loop-n l = record {
  room : length l.next.items ≡ suc (length l.shapes);
  many : length l.visits.items ≡ l.n;
  each : (k : ℕ) (d : Visit) → k < l.n → (get_or l.visits.items k d).shape ≡ k;
}
