use Rattle.std.proofs.Common.{ℕ, ◌<◌, ◌≤◌, get_or}
use Rattle.snap_bytes.proofs.reading.last_byte.Given as goal

-- no byte so far is a last one
abbrev pub invariant-loop-i : goal.invariant-loop-i
invariant-loop-i l = (k : ℕ) → k < l.i → 128 ≤ get_or l.bytes k 0
