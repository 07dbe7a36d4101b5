use Rattle.snap_graph.specs.Intrinsics.{prototypes}
use Rattle.snap_store.proofs.Pushing.{four}
use Rattle.snap_store.proofs.intrinsic_nodes.push_errors.Goals as goal

pub returns : goal.returns
unfolding prototypes
returns c =
    four c.args.nodes.now.items c.push.new.self.items c.push-2.new.self.items c.push-3.new.self.items c.push-4.new.self.items
    c.in_ok-error_prototype.field-0 c.in_ok-error_prototype-2.field-0 c.in_ok-error_prototype-3.field-0 c.in_ok-error_prototype-4.field-0 _ _ _ _
    c.in_ok-push.ensures.items c.in_ok-push-2.ensures.items c.in_ok-push-3.ensures.items c.in_ok-push-4.ensures.items
    c.in_ok-error_prototype.ensures c.in_ok-error_prototype-2.ensures c.in_ok-error_prototype-3.ensures c.in_ok-error_prototype-4.ensures
