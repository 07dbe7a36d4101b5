use Rattle.std.proofs.Common.{◌≡◌, drop}
use Rattle.std.specs.Str.{bytes_eq as text_eq}
use Rattle.snap_arena.proofs.view.same_bytes.Given as goal

abbrev pub invariant-loop-i : goal.invariant-loop-i
invariant-loop-i l = text_eq (drop l.i l.bytes) (drop l.i l.units) ≡ text_eq l.bytes l.units
