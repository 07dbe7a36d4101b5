use Rattle.snap_arena.specs.Texts.{IsHeld}
use Rattle.arena_rows.proofs.tests.growing.grow.Given as goal

abbrev pub invariant-loop : goal.invariant-loop
invariant-loop l = record {
  left : IsHeld l.arena l.left;
  right : IsHeld l.arena l.right;
  unit : IsHeld l.arena l.unit;
  other : IsHeld l.arena l.other;
}
