use Rattle.std.proofs.Common.{arith}
use Rattle.snap_io.proofs.Steps.{Appends-more, rest-within}
use Rattle.snap_io.proofs.transfer.write_whole.Goals as goal

pub loop-turn-preserved : goal.loop-turn-preserved
loop-turn-preserved g c = (
  omega arith,
  rest-within c.args.bytes.now c.loop-turn.at c.in-Ok.taken c.loop-turn.invariant.1 c.in-Ok.ensures.bound,
  Appends-more _ _ _ c.args.bytes.now c.loop-turn.at c.in-Ok.taken c.loop-turn.invariant.2 c.in-Ok.ensures.bytes,
)
