use Rattle.std.proofs.Common.{◌≡◌, [], length, ℕ, List, sym, subst}
use Rattle.std.proofs.lemmas.List.{nil_from_length}
use Rattle.snap_arena.specs.Texts.{IsAdded}
use Rattle.snap_arena.proofs.Growing.{added_empty}
use Rattle.std.proofs.lemmas.Bool.{eqb-true}
use Rattle.snap_arena.proofs.arena.Arena.hold_units.Goals as goal

pub returns-then-is_empty-clause-ok : goal.returns-then-is_empty-clause-ok
returns-then-is_empty-clause-ok c =
    let none : c.args.units.now ≡ [] = nil_from_length c.args.units.now (eqb-true (length c.args.units.now) 0 (sym c.if-is_empty.ensures)) in
    subst (λ (text : List ℕ). IsAdded c.args.self.now text c.args.self.now (record { buffer = 0; start = 0; length = 0 })) (sym none) (added_empty c.args.self.now)
