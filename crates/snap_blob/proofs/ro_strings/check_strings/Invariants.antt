use Rattle.std.proofs.Common.{◌≡◌, ◌≤◌, length}
use Rattle.spec_format.specs.Check.{AllHold, each}
use Rattle.spec_format.specs.Strings.{first_byte, string_checks}
use Rattle.snap_blob.specs.Ordered.{IsBefore}
use Rattle.snap_blob.proofs.ro_strings.check_strings.Given as goal

abbrev pub invariant-loop-i : goal.invariant-loop-i
invariant-loop-i l = record {
  hold : AllHold (each l.i (string_checks l.section l.base));
  reached : l.first ≤ length l.section;
  begins : l.first ≡ first_byte l.section l.i;
  above : IsBefore l.section l.i l.before;
}
