use Rattle.snap_graph.specs.Intrinsics.{constructors}
use Rattle.snap_store.proofs.intrinsic_nodes.push_constructors.Goals as goal

pub returns : goal.returns
unfolding constructors
returns c = c.push_rows.ensures
