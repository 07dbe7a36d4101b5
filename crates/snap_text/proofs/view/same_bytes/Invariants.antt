use Rattle.std.proofs.Common.{◌≡◌, take}
use Rattle.snap_text.proofs.view.same_bytes.Given as goal

abbrev pub invariant-loop-i : goal.invariant-loop-i
invariant-loop-i l = take l.i l.bytes ≡ take l.i l.text
