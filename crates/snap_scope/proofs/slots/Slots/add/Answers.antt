use Rattle.std.proofs.Common.{sym, ◌∙◌}
use Rattle.snap_scope.proofs.Behind.{adds_old, adds_many, is_none}
use Rattle.spec_scopes.specs.Slots.{place_in}
use Rattle.snap_scope.proofs.slots.Slots.add.Goals as goal

pub returns-then-is_some : goal.returns-then-is_some
returns-then-is_some c = adds_old c.self.inside.few c.self.inside.many c.args.self.now c.args.name.now c.args.is_constant c.args.self.now c.find.result c.self.view_is c.find.ensures (sym c.is_some.ensures ∙ c.if-is_some.true)

pub returns : goal.returns
returns c =
    adds_many c.self.inside.few c.self.inside.many c.args.self.now c.add-2.new.self c.args.name.now c.args.is_constant c.in_ok-is_new.is_new c.self.view_is (is_none c.find.result (place_in c.self.inside.few c.args.name.now) c.find.ensures (sym c.is_some.ensures ∙ c.if-is_some.false)) c.in_ok-is_new.ensures
