use Rattle.std.proofs.Common.{◌≡◌, ◌++◌, [], length, slice_index_or, ℕ, List, slice_set, Vec, Global, sym, ap, subst, ◌∙◌}
use Rattle.snap_arena.specs.Texts.{AreSmall, contents}
use Rattle.snap_arena.proofs.Growing.{added_behind, added_at, small_behind}
use Rattle.snap_arena.proofs.arena.Arena.hold_behind.Goals as goal

-- what the buffers hold then
put : (inside now after : List (List ℕ)) (number : ℕ) (units : List ℕ) → inside ≡ now → after ≡ slice_set inside number (slice_index_or inside number [] ++ units) → after ≡ slice_set now number (slice_index_or now number [] ++ units)
put inside now after number units view e = e ∙ ap (λ (all : List (List ℕ)). slice_set all number (slice_index_or all number [] ++ units)) view

pub invariant_of-self-2 : goal.invariant_of-self-2
invariant_of-self-2 c =
    let small : AreSmall c.args.self.now = subst (λ (all : List (List ℕ)). AreSmall all) c.self.view_is c.self.invariant in
    let after = put (contents c.self.inside.buffers.items) c.args.self.now (contents c.put_units.new.buffers.items) c.args.number c.args.units.now c.self.view_is c.in_ok-put_units.ensures.ok in
    subst (λ (all : List (List ℕ)). AreSmall all) (sym after) (small_behind c.args.self.now c.args.number c.args.units.now c.requires.place small c.requires.room)

pub returns-clause-ok : goal.returns-clause-ok
returns-clause-ok c =
    let after = put (contents c.self.inside.buffers.items) c.args.self.now (contents c.put_units.new.buffers.items) c.args.number c.args.units.now c.self.view_is c.in_ok-put_units.ensures.ok in
    let old : c.length_of.result ≡ length (slice_index_or c.args.self.now c.args.number []) =
    c.length_of.ensures ∙ ap (λ (all : List (Vec ℕ Global)). length (slice_index_or (contents all) c.args.number [])) c.as_slice.ensures.value ∙ ap (λ (all : List (List ℕ)). length (slice_index_or all c.args.number [])) c.self.view_is in
    added_at c.args.self.now c.args.units.now _ (contents c.put_units.new.buffers.items) _ c.in_ok-buffer.buffer c.in_ok-start.start c.in_ok-length.length (added_behind c.args.self.now c.args.number c.args.units.now c.requires.place) after c.in_ok-buffer.ensures.same (c.in_ok-start.ensures.same ∙ old) c.in_ok-length.ensures.same
