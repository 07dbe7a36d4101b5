use Rattle.snap_action.proofs.Follows.{at_same, chained, cut_off}
use Rattle.snap_object.specs.Parts.{may_write_from, put_unless_frozen}
use Rattle.snap_object.proofs.Growing.{put_unless_grows}
use Rattle.snap_object.proofs.writing.set_along.Goals as goal

pub returns-in_err-may_write : goal.returns-in_err-may_write
returns-in_err-may_write g c =
    cut_off (may_write_from c.args.name.now c.args.node) (λ done. put_unless_frozen c.args.node c.args.name.now (g.S.Store.meaning c.args.store.now c.args.held.now)) (λ done. put_unless_grows c.args.node c.args.name.now (g.S.Store.meaning c.args.store.now c.args.held.now))
    c.in_err-may_write.ensures.gives c.from_residual.result c.from_residual.ensures.1

pub returns : goal.returns
returns g c =
    let h = c.in_ok-may_write.ensures in
    chained g.met.S.Store.later_still (λ a b text h. g.met.S.Store.keeps_left_out a b text h) (may_write_from c.args.name.now c.args.node) (λ done. put_unless_frozen c.args.node c.args.name.now (g.S.Store.meaning c.args.store.now c.args.held.now)) h.gives
    (at_same (λ value. put_unless_frozen c.args.node c.args.name.now value) (g.met.S.Store.keeps_meaning c.args.store.now c.may_write.new.store c.args.held.now h.gives.later c.requires.owned) c.put.ensures)
