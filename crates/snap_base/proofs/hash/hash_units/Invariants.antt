use Rattle.std.proofs.Common.{◌≡◌, fold, take}
use Rattle.snap_base.specs.Hash.{mixed}
use Rattle.snap_base.proofs.hash.hash_units.Given as goal

abbrev pub invariant-loop-unit : goal.invariant-loop-unit
invariant-loop-unit l = l.hash ≡ fold mixed l.seed (take l.unit-index l.units)
