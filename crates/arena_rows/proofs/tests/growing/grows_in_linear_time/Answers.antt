use Rattle.snap_arena.specs.Laws.{held_still}
use Rattle.arena_rows.proofs.tests.growing.grows_in_linear_time.Goals as goal

pub grow-requires-clause-unit : goal.grow-requires-clause-unit
grow-requires-clause-unit g c = held_still c.hold.new.self c.hold-2.new.self c.in_ok-unit.unit c.hold-2.ensures.grows c.in_ok-unit.ensures.held
