use Rattle.std.proofs.Common.{◌≡◌, ◌++◌, map, take}
use Rattle.snap_store.specs.Rows.{row_node}
use Rattle.snap_store.proofs.intrinsic_nodes.push_rows.Given as goal

-- those so far
abbrev pub invariant-loop-row : goal.invariant-loop-row
invariant-loop-row l = l.nodes.items ≡ l.initial.nodes.items ++ map row_node (take l.row-index l.rows)
