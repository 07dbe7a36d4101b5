use Rattle.snap_graph.specs.Intrinsics.{constructors, host_objects, intrinsics, natives_from, prototypes}
use Rattle.snap_store.proofs.Pushing.{joined}
use Rattle.snap_store.proofs.intrinsic_nodes.all_nodes.Goals as goal

pub returns : goal.returns
unfolding intrinsics
returns c =
    joined c.new-nodes.result.items c.push_prototypes.new.nodes.items c.push_errors.new.nodes.items c.push_constructors.new.nodes.items c.push_hosts.new.nodes.items c.push_methods.new.nodes.items
    prototypes constructors host_objects (natives_from 24 38)
    c.new-nodes.ensures.items c.in_ok-push_prototypes.ensures c.in_ok-push_errors.ensures c.in_ok-push_constructors.ensures c.in_ok-push_hosts.ensures c.in_ok-push_methods.ensures
