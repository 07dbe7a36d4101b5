use Rattle.std.proofs.Common.{◌≡◌, ◌++◌, [], length, ℕ, List, ◌∷◌, refl, sym, ap, subst, ◌∙◌, arith}
use Rattle.std.proofs.lemmas.List.{map_push, length-map}
use Rattle.snap_arena.specs.Texts.{AreSmall, contents}
use Rattle.snap_arena.proofs.Growing.{added_last, added_at, small_last}
use Rattle.snap_arena.proofs.arena.Arena.add.Goals as goal

pub invariant_of-self-2 : goal.invariant_of-self-2
invariant_of-self-2 c =
    let put : contents c.push.new.self.items ≡ c.args.self.now ++ c.args.buffer.items ∷ [] =
    ap contents c.in_ok-push.ensures.items ∙ map_push (λ b. b.items) c.self.inside.buffers.items c.args.buffer ∙ ap (λ (all : List (List ℕ)). all ++ c.args.buffer.items ∷ []) c.self.view_is in
    let small : AreSmall c.args.self.now = subst (λ (all : List (List ℕ)). AreSmall all) c.self.view_is c.self.invariant in
    subst (λ (all : List (List ℕ)). AreSmall all) (sym put) (small_last c.args.self.now c.args.buffer.items small (omega (arith, c.args.buffer.ok)))

pub returns-clause-ok : goal.returns-clause-ok
returns-clause-ok c =
    let put : contents c.push.new.self.items ≡ c.args.self.now ++ c.args.buffer.items ∷ [] =
    ap contents c.in_ok-push.ensures.items ∙ map_push (λ b. b.items) c.self.inside.buffers.items c.args.buffer ∙ ap (λ (all : List (List ℕ)). all ++ c.args.buffer.items ∷ []) c.self.view_is in
    let many : length c.self.inside.buffers.items ≡ length c.args.self.now = sym (length-map c.self.inside.buffers.items (λ b. b.items)) ∙ ap length c.self.view_is in
    added_at c.args.self.now c.args.buffer.items _ (contents c.push.new.self.items) _ c.in_ok-number.number 0 c.in_ok-length.length (added_last c.args.self.now c.args.buffer.items) put (omega (arith, c.self.inside.buffers.ok)) refl (omega (arith, c.args.buffer.ok))
