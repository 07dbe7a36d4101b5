use Rattle.std.proofs.Common.{◌≡◌, map, take}
use Rattle.snap_store.specs.Rows.{own_in}
use Rattle.snap_store.proofs.intrinsic_nodes.own_properties.Given as goal

-- those so far
abbrev pub invariant-loop-row : goal.invariant-loop-row
invariant-loop-row l = l.properties.items ≡ map own_in (take l.row-index l.rows)
