use Rattle.std.proofs.Common.{◌≤◌, length, take, arith, length-take-le}
use Rattle.snap_io.proofs.Steps.{Consumes-more, TakesAtMost-more}
use Rattle.snap_io.proofs.transfer.read_up_to.Goals as goal

pub loop-turn-preserved : goal.loop-turn-preserved
loop-turn-preserved g c = record {
  counted = omega arith;
  within = omega arith;
  filled = c.in_ok-taken.ensures.most;
  fits = c.in_ok-taken.ensures.fits;
  read = Consumes-more _ _ _ _ _ c.loop-turn.invariant.read c.in_ok-taken.ensures.takes;
}

pub returns-in_err-taken-clause-bounded : goal.returns-in_err-taken-clause-bounded
returns-in_err-taken-clause-bounded g c =
    let filled : c.loop-turn.len ≤ length c.loop-turn.bytes.items = omega (arith, c.loop-turn.bytes.ok.0) in
    TakesAtMost-more _ _ _ (take c.loop-turn.len c.loop-turn.bytes.items) _ _ c.loop-turn.invariant.read c.read_more.ensures.bounded
    (omega (arith, length-take-le c.loop-turn.len c.loop-turn.bytes.items filled))
