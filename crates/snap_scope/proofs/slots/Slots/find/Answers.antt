use Rattle.std.proofs.Common.{ℕ, ap, ◌∙◌}
use Rattle.std.specs.Prelude.{Some}
use Rattle.snap_scope.proofs.Behind.{found_few, found_many, found_none, shifted}
use Rattle.snap_scope.proofs.slots.Slots.find.Goals as goal

pub returns-in-Some : goal.returns-in-Some
returns-in-Some c = found_few c.self.inside.few c.self.inside.many c.args.self.now c.args.name.now c.in-Some.place c.self.view_is c.in-Some.ensures

pub returns-in-Some-find : goal.returns-in-Some-find
returns-in-Some-find c =
    ap (λ (n : ℕ). Some (shifted n c.in-Some-find.place)) c.len.ensures.number
    ∙ found_many c.self.inside.few c.self.inside.many c.args.self.now c.args.name.now c.in-Some-find.place c.self.view_is c.in-None.ensures c.in-Some-find.ensures.place

pub returns-in-None-find : goal.returns-in-None-find
returns-in-None-find c = found_none c.self.inside.few c.self.inside.many c.args.self.now c.args.name.now c.self.view_is c.in-None.ensures c.in-None-find.ensures.place
