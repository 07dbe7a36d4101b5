use Rattle.std.proofs.Common.{[], slice_index_or, ℕ, List, subst, arith}
use Rattle.snap_arena.specs.Texts.{AreSmall, IsHeld, text_in}
use Rattle.snap_arena.proofs.Growing.{part_text, held_length}
use Rattle.snap_arena.proofs.arena.Arena.part.Goals as goal

pub overflow_add-result : goal.overflow_add-result
unfolding AreSmall IsHeld
overflow_add-result c =
    let small : AreSmall c.args.self.now = subst (λ (all : List (List ℕ)). AreSmall all) c.self.view_is c.self.invariant in
    let many = held_length c.args.self.now c.args.held c.requires.held in
    omega (arith, small c.args.held.buffer, many)

pub returns-clause-held : goal.returns-clause-held
unfolding IsHeld
returns-clause-held c = omega (arith, held_length c.args.self.now c.args.held c.requires.held)

pub returns-clause-text : goal.returns-clause-text
unfolding text_in
returns-clause-text c =
    let many = held_length c.args.self.now c.args.held c.requires.held in
    part_text c.args.held.start c.args.held.length c.args.from c.args.to (slice_index_or c.args.self.now c.args.held.buffer []) c.requires.order (omega (arith, many))
