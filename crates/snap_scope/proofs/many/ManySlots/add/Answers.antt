use Rattle.std.proofs.Common.{nat_eq, refl}
use Rattle.snap_scope.proofs.Entries.{adds}
use Rattle.snap_scope.proofs.many.ManySlots.add.Goals as goal

pub returns : goal.returns
returns c =
    adds c.self.inside.names.entries c.insert_full.new.self.entries c.args.self.now c.args.name.now c.in_ok-key.key c.args.is_constant c.in_ok-slot.slot c.len-count.result (nat_eq c.in_ok-slot.slot c.len-count.result) refl
    c.self.view_is c.in_ok-key.ensures.items c.in_ok-slot.ensures.index c.len-count.ensures.len c.in_ok-slot.ensures.entries
