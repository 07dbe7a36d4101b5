use Rattle.std.proofs.Common.{List, sym, subst}
use Rattle.std.specs.Prelude.{All}
use Rattle.snap_arena.specs.declared.held.HeldText.{HeldText}
use Rattle.snap_arena.specs.Texts.{IsHeld}
use Rattle.arena_rows.proofs.Shelves.{all_still, one_more}
use Rattle.arena_rows.proofs.tests.shelf.Shelf.hold.Goals as goal

pub invariant_of-self-in_err-push-2 : goal.invariant_of-self-in_err-push-2
invariant_of-self-in_err-push-2 c =
    subst (λ (texts : List HeldText). All (IsHeld c.hold.new.self) texts) (sym c.in_err-push-2.ensures.items) (all_still c.self.inside.arena c.hold.new.self c.self.inside.texts.items c.hold.ensures.grows c.self.invariant)

pub invariant_of-self-2 : goal.invariant_of-self-2
invariant_of-self-2 c =
    subst (λ (texts : List HeldText). All (IsHeld c.hold.new.self) texts) (sym c.in_ok-push-2.ensures.items) (one_more c.self.inside.arena c.hold.new.self c.self.inside.texts.items c.in_ok-held.held c.hold.ensures.grows c.self.invariant c.in_ok-held.ensures.held)
