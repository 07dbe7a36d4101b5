use Rattle.std.proofs.Common.{◌≡◌, ◌≤◌, length, drop}
use Rattle.std.specs.Ordering.{nat_cmp}
use Rattle.std.specs.Cmp.Lexicographic.{slice_cmp}
use Rattle.snap_arena.proofs.view.order_bytes.Given as goal

abbrev pub invariant-loop-i : goal.invariant-loop-i
invariant-loop-i l = record {
  rest : slice_cmp nat_cmp (drop l.i l.bytes) (drop l.i l.units) ≡ slice_cmp nat_cmp l.bytes l.units;
  within : l.i ≤ length l.units;
}
