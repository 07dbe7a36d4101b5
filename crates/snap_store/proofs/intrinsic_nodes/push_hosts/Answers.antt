use Rattle.snap_graph.specs.Intrinsics.{host_objects}
use Rattle.snap_store.proofs.intrinsic_nodes.push_hosts.Goals as goal

pub returns : goal.returns
unfolding host_objects
returns c = c.push_rows.ensures
