use Rattle.std.proofs.Common.{sym, ◌∙◌}
use Rattle.snap_action.proofs.Follows.{at_same, moved_on}
use Rattle.snap_object.specs.Parts.{set_along}
use Rattle.snap_object.proofs.Putting.{name_other, on_false}
use Rattle.snap_object.proofs.writing.set_named.Goals as goal

pub returns : goal.returns
returns g c =
    let h = c.write_in_place.ensures in
    name_other c.args.node c.args.name.now (g.S.Store.meaning c.args.store.now c.args.held.now) (sym c.is_length.ensures ∙ c.if-is_length.false)
    (moved_on g.met.S.Store.later_still (λ a b text h. g.met.S.Store.keeps_left_out a b text h) (record { view = on_false c.write_in_place.result c.if-write_in_place.false h.absent; later = h.later })
    (at_same (λ value. set_along c.args.node c.args.name.now value) (g.met.S.Store.keeps_meaning c.args.store.now c.write_in_place.new.store c.args.held.now h.later c.requires.owned) c.set_along.ensures))
