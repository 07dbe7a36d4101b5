use Rattle.std.proofs.Common.{arith}
use Rattle.spec_values.specs.Operations.{elements_of}
use Rattle.snap_object.proofs.Counting.{counted_none, counted_one}
use Rattle.snap_object.proofs.sizes.members.Goals.{then-branch, else-branch}
use Rattle.snap_object.proofs.sizes.members.Goals as goal

pub loop-i-preserved : goal.loop-i-preserved
loop-i-preserved g c =
    let h = c.in_ok-is_there.ensures in
    let elements = elements_of (g.S.Store.view c.args.store.now).nodes c.args.node in
    elim c.if-branch.branch [
      | then-branch w ↦ record { counted = counted_one elements c.loop-i.i c.loop-i.count c.if-branch.count h.0 c.in_ok-is_there.field-0 h.1 h.2 c.loop-i.invariant.counted w.if-branch.true w.count-is; few = omega (arith, w.count-is, c.loop-i.invariant.few) }
      | else-branch w ↦ record { counted = counted_none elements c.loop-i.i c.loop-i.count c.if-branch.count h.0 c.in_ok-is_there.field-0 h.1 h.2 c.loop-i.invariant.counted w.if-branch.false w.count-is; few = omega (arith, w.count-is, c.loop-i.invariant.few) }
    ]
