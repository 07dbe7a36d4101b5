use Rattle.std.proofs.Common.{◌≡◌, take}
use Rattle.snap_text.specs.StrView.{pairs}
use Rattle.snap_text.proofs.view.paired.Given as goal

abbrev pub invariant-loop-i : goal.invariant-loop-i
invariant-loop-i l = l.text.items ≡ take l.i (pairs l.bytes)
