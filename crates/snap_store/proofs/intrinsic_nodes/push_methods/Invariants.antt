use Rattle.std.proofs.Common.{◌≡◌, ◌++◌, ◌-◌}
use Rattle.snap_graph.specs.Intrinsics.{natives_from}
use Rattle.snap_store.proofs.intrinsic_nodes.push_methods.Given as goal

-- those so far
abbrev pub invariant-loop-native : goal.invariant-loop-native
invariant-loop-native l = l.nodes.items ≡ l.initial.nodes.items ++ natives_from 24 (l.native - 24)
