use Rattle.snap_graph.specs.Intrinsics.{prototypes}
use Rattle.snap_store.proofs.intrinsic_nodes.push_prototypes.Goals as goal

pub returns : goal.returns
unfolding prototypes
returns c = c.push_rows.ensures
