use Rattle.std.proofs.Common.{◌≡◌}
use Rattle.spec_format.specs.Check.{AllHold, each}
use Rattle.spec_format.specs.Container.{section_checks, section_start}
use Rattle.snap_blob.proofs.container.check_ends.Given as goal

abbrev pub invariant-loop-k : goal.invariant-loop-k
invariant-loop-k l = record {
  ends : AllHold (each l.k (section_checks l.bytes));
  begins : l.start ≡ section_start l.bytes l.k;
}
