use Rattle.std.proofs.Common.{◌≡◌, ◌+◌, ◌<◌, ◌++◌, [], length, slice_index_or, ℕ, List, slice_set, refl, sym, ap, subst, ◌∙◌, arith}
use Rattle.snap_arena.specs.Texts.{AreSmall, contents, text_in}
use Rattle.snap_arena.specs.declared.held.HeldText.{HeldText}
use Rattle.snap_arena.proofs.Growing.{added_in_place, added_at, held_length, is_there, small_behind}
use Rattle.snap_arena.proofs.arena.Arena.join_in_place.Goals as goal

-- what the buffers hold then
put : (inside now after : List (List ℕ)) (number : ℕ) (text : HeldText) → inside ≡ now → after ≡ slice_set inside number (slice_index_or inside number [] ++ text_in inside text) → after ≡ slice_set now number (slice_index_or now number [] ++ text_in now text)
put inside now after number text view e = e ∙ ap (λ (all : List (List ℕ)). slice_set all number (slice_index_or all number [] ++ text_in all text)) view

pub invariant_of-self-2 : goal.invariant_of-self-2
invariant_of-self-2 c =
    let small : AreSmall c.args.self.now = subst (λ (all : List (List ℕ)). AreSmall all) c.self.view_is c.self.invariant in
    let after = put (contents c.self.inside.buffers.items) c.args.self.now (contents c.put_text.new.buffers.items) c.args.left.buffer c.args.right c.self.view_is c.in_ok-put_text.ensures.ok in
    let many = held_length c.args.self.now c.args.right c.requires.right in
    let within : c.args.left.buffer < length c.args.self.now = is_there c.args.self.now c.args.left.buffer (omega arith) in
    subst (λ (all : List (List ℕ)). AreSmall all) (sym after) (small_behind c.args.self.now c.args.left.buffer (text_in c.args.self.now c.args.right) within small (omega (arith, many)))

pub returns-clause-ok : goal.returns-clause-ok
returns-clause-ok c =
    let after = put (contents c.self.inside.buffers.items) c.args.self.now (contents c.put_text.new.buffers.items) c.args.left.buffer c.args.right c.self.view_is c.in_ok-put_text.ensures.ok in
    added_at c.args.self.now _ _ (contents c.put_text.new.buffers.items) _ c.args.left.buffer c.args.left.start (c.args.left.length + c.args.right.length) (added_in_place c.args.self.now c.args.left c.args.right c.requires.some c.requires.end c.requires.right) after refl refl refl
