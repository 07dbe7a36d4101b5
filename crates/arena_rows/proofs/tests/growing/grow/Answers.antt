use Rattle.snap_arena.specs.Laws.{held_still}
use Rattle.arena_rows.proofs.tests.growing.grow.Goals as goal

pub join-requires-in-loop-clause-left : goal.join-requires-in-loop-clause-left
join-requires-in-loop-clause-left c = held_still c.loop.arena c.join.new.self c.loop.right c.join.ensures.grows c.loop.invariant.right

pub join-requires-in-loop-clause-right : goal.join-requires-in-loop-clause-right
join-requires-in-loop-clause-right c = held_still c.loop.arena c.join.new.self c.args.unit c.join.ensures.grows c.loop.invariant.unit

pub loop-preserved : goal.loop-preserved
loop-preserved c = record {
  left = held_still c.join.new.self c.join-in-loop.new.self c.in_ok-left.left c.join-in-loop.ensures.grows c.in_ok-left.ensures.held;
  right = c.in_ok-right.ensures.held;
  unit = held_still c.join.new.self c.join-in-loop.new.self c.args.unit c.join-in-loop.ensures.grows (held_still c.loop.arena c.join.new.self c.args.unit c.join.ensures.grows c.loop.invariant.unit);
  other = held_still c.join.new.self c.join-in-loop.new.self c.args.other c.join-in-loop.ensures.grows (held_still c.loop.arena c.join.new.self c.args.other c.join.ensures.grows c.loop.invariant.other);
}
