use Rattle.std.proofs.Common.{◌≡◌, ◌+◌, ◌*◌, ◌≤◌, length}
use Rattle.spec_format.specs.Check.{AllHold, each}
use Rattle.spec_format.specs.Strings.{end_before, string_end_checks}
use Rattle.snap_blob.proofs.ro_strings.check_string_ends.Given as goal

abbrev pub invariant-loop-i : goal.invariant-loop-i
invariant-loop-i l = record {
  hold : AllHold (each l.i (string_end_checks l.section l.base));
  reached : 8 + 4 * l.i ≤ length l.section;
  ended : l.before ≡ end_before l.section l.i;
}
