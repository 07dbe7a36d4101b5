use Rattle.std.proofs.Common.{◌≡◌, ◌≤◌, ◌-◌, ◌++◌, length, take, drop, vec_len}
use Rattle.snap_text.specs.Utf8.{utf8_of}
use Rattle.snap_text.proofs.print.append.Given as goal

abbrev pub invariant-loop-at : goal.invariant-loop-at
invariant-loop-at l = record {
  whole : l.out.items ++ utf8_of (drop l.at l.units) ≡ l.fn.out.items ++ utf8_of l.units;
  kept : take (vec_len l.fn.out) l.out.items ≡ l.fn.out.items;
  within : l.at ≤ length l.units;
}

abbrev pub decreases-loop-at : goal.decreases-loop-at
decreases-loop-at l = length l.units - l.at
