use Rattle.std.proofs.Common.{◌≡◌, [], length, slice_index_or, ℕ, List, Vec, Global, ap, ◌∙◌, arith}
use Rattle.snap_arena.specs.Texts.{AreSmall, contents}
use Rattle.snap_arena.proofs.arena.Arena.hold_shared.Goals as goal

pub overflow_add-length : goal.overflow_add-length
unfolding AreSmall
overflow_add-length c =
    let there : c.length_of-length.result ≡ length (slice_index_or (contents c.self.inside.buffers.items) c.self.inside.current []) = c.length_of-length.ensures ∙ ap (λ (all : List (Vec ℕ Global)). length (slice_index_or (contents all) c.self.inside.current [])) c.as_slice.ensures.value in
    omega (arith, c.self.invariant c.self.inside.current, there)
