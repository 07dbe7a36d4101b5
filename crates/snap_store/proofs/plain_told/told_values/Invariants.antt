use Rattle.std.proofs.Common.{◌≡◌, map, take}
use Rattle.snap_store.specs.Plain.{value_in}
use Rattle.snap_store.proofs.plain_told.told_values.Given as goal

-- those so far
abbrev pub invariant-loop-held : goal.invariant-loop-held
invariant-loop-held l = l.told.items ≡ map (value_in l.texts) (take l.held-index l.values)
