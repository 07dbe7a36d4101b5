use Rattle.std.proofs.Common.{◌≡◌, map, take}
use Rattle.snap_store.specs.Ranked.{ranked_key}
use Rattle.snap_store.proofs.plain_order.ranked_keys.Given as goal

-- those so far
abbrev pub invariant-loop-property : goal.invariant-loop-property
invariant-loop-property l = l.ranked.items ≡ map ranked_key (take l.property-index l.properties)
