use Rattle.std.proofs.Common.{◌≡◌}
use Rattle.blob_rows.proofs.Examples.{one_unit_strings}
use Rattle.blob_rows.proofs.tests.sections.all_strings.Given as goal

abbrev pub invariant-loop-unit : goal.invariant-loop-unit
invariant-loop-unit l = l.strings.items ≡ one_unit_strings 0 l.unit
