use Rattle.std.proofs.Common.{◌≡◌, map, take}
use Rattle.snap_store.specs.Plain.{node_in}
use Rattle.snap_store.proofs.plain_told.told_graph.Given as goal

-- those so far
abbrev pub invariant-loop-node : goal.invariant-loop-node
invariant-loop-node l = l.told.items ≡ map (node_in l.texts) (take l.node-index l.nodes)
