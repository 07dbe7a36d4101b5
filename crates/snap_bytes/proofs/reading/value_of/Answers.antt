use Rattle.std.proofs.Common.{◌≡◌, ◌^◌, ◌≤◌, ◌⊎◌, inl, inr, arith}
use Rattle.snap_bytes.proofs.Varints.{no_number}
use Rattle.snap_bytes.proofs.reading.value_of.Goals as goal
use Rattle.snap_bytes.proofs.reading.value_of.Goals.{then-n-eq0-via-then-n-eq0, then-n-eq0-via-else-n-eq0+then-n-gt-MOST_HIGH}

pub returns-then-n-eq0-clause-none : goal.returns-then-n-eq0-clause-none
returns-then-n-eq0-clause-none c =
    let bad : (c.loop-i.n ≡ 0) ⊎ (2 ^ 57 ≤ c.loop-i.n) =
    elim c.then-n-eq0.branch [
      | then-n-eq0-via-then-n-eq0 w ↦ inl (omega arith)
      | then-n-eq0-via-else-n-eq0+then-n-gt-MOST_HIGH w ↦ inr (omega arith)
    ] in
    λ m whole. no_number c.args.text.now c.loop-i.i c.loop-i.n m (omega arith) (omega arith) c.loop-i.invariant bad whole
