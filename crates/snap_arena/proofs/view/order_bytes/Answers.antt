use Rattle.snap_arena.proofs.Orders.{ordered_past, ordered_before}
use Rattle.std.proofs.Common.{sym, ◌∙◌, arith}
use Rattle.snap_arena.proofs.view.order_bytes.Goals as goal

pub returns-then-i-units : goal.returns-then-i-units
returns-then-i-units c = sym (ordered_past c.args.bytes.now c.args.units.now c.loop-i.i (omega arith) (omega arith)) ∙ c.loop-i.invariant.rest

pub returns-then-bytes-units : goal.returns-then-bytes-units
returns-then-bytes-units c = sym (ordered_before c.args.bytes.now c.args.units.now c.loop-i.i (omega arith) (omega arith)) ∙ c.loop-i.invariant.rest
