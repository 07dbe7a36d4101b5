use Rattle.std.proofs.Common.{length, take, drop, ℕ, List, ap, ◌∙◌, arith}
use Rattle.snap_arena.specs.Texts.{IsHeld, text_in}
use Rattle.snap_arena.proofs.buffers.units_of.Goals as goal

pub part_of-requires : goal.part_of-requires
unfolding IsHeld
part_of-requires c = omega (arith, ap length c.buffer_of-units.ensures)

pub returns : goal.returns
unfolding text_in
returns c = c.part_of.ensures ∙ ap (λ (units : List ℕ). take c.args.held.length (drop c.args.held.start units)) c.buffer_of-units.ensures
