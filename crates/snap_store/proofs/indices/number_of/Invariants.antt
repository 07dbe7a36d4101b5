use Rattle.std.proofs.Common.{◌≡◌, take}
use Rattle.std.specs.Str.Parse.{AllDigits, digits_value}
use Rattle.snap_store.proofs.indices.number_of.Given as goal

abbrev pub invariant-loop-unit : goal.invariant-loop-unit
invariant-loop-unit l = record {
  digits : AllDigits 10 (take l.unit-index l.units);
  value : l.number ≡ digits_value 10 (take l.unit-index l.units);
}
