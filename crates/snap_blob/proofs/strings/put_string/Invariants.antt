use Rattle.std.proofs.Common.{◌≡◌, ◌++◌, take}
use Rattle.snap_blob.proofs.strings.put_string.Given as goal

abbrev pub invariant-loop-unit : goal.invariant-loop-unit
invariant-loop-unit l = l.section.items ≡ l.fn.section.items ++ take l.unit-index l.units
