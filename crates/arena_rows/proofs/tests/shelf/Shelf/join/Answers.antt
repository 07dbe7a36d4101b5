use Rattle.std.proofs.Common.{List, sym, subst}
use Rattle.std.specs.Prelude.{All}
use Rattle.snap_arena.specs.declared.held.HeldText.{HeldText}
use Rattle.snap_arena.specs.Texts.{IsHeld}
use Rattle.arena_rows.proofs.Shelves.{all_still, one_more}
use Rattle.arena_rows.proofs.tests.shelf.Shelf.join.Goals as goal

pub invariant_of-self-in_err-wanted : goal.invariant_of-self-in_err-wanted
invariant_of-self-in_err-wanted c = all_still c.self.inside.arena c.join.new.self c.self.inside.texts.items c.join.ensures.grows c.self.invariant

pub invariant_of-self-in_err-extend_from_slice : goal.invariant_of-self-in_err-extend_from_slice
invariant_of-self-in_err-extend_from_slice c = all_still c.self.inside.arena c.join.new.self c.self.inside.texts.items c.join.ensures.grows c.self.invariant

pub invariant_of-self-in_err-push : goal.invariant_of-self-in_err-push
invariant_of-self-in_err-push c = all_still c.self.inside.arena c.join.new.self c.self.inside.texts.items c.join.ensures.grows c.self.invariant

pub invariant_of-self-in_err-push-2 : goal.invariant_of-self-in_err-push-2
invariant_of-self-in_err-push-2 c =
    subst (λ (texts : List HeldText). All (IsHeld c.join.new.self) texts) (sym c.in_err-push-2.ensures.items) (all_still c.self.inside.arena c.join.new.self c.self.inside.texts.items c.join.ensures.grows c.self.invariant)

pub invariant_of-self-then-right-len : goal.invariant_of-self-then-right-len
invariant_of-self-then-right-len c =
    subst (λ (texts : List HeldText). All (IsHeld c.join.new.self) texts) (sym c.in_ok-push-2.ensures.items) (one_more c.self.inside.arena c.join.new.self c.self.inside.texts.items c.in_ok-held.held c.join.ensures.grows c.self.invariant c.in_ok-held.ensures.held)
