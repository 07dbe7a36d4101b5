use Rattle.std.proofs.Common.{◌≡◌, map, take}
use Rattle.snap_store.specs.Plain.{property_in}
use Rattle.snap_store.proofs.plain_told.told_properties.Given as goal

-- those so far
abbrev pub invariant-loop-property : goal.invariant-loop-property
invariant-loop-property l = l.told.items ≡ map (property_in l.texts) (take l.property-index l.properties)
