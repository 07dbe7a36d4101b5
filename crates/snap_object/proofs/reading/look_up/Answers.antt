use Rattle.std.proofs.Common.{refl, sym, subst}
use Rattle.spec_values.specs.Access.{or_undefined}
use Rattle.spec_values.specs.Answer.{give}
use Rattle.snap_action.specs.Gives.{owned_some, view_some}
use Rattle.snap_action.proofs.Follows.{answered, at_same, chained, cut_off}
use Rattle.snap_action.proofs.Growing.{give_grows}
use Rattle.snap_object.specs.Parts.{found_from}
use Rattle.snap_object.proofs.reading.look_up.Goals as goal

pub returns-in_err-held : goal.returns-in_err-held
returns-in_err-held g c =
    cut_off (found_from c.args.base.now c.args.name.now c.args.from) (λ found. give (or_undefined found)) (λ found. give_grows (or_undefined found)) c.in_err-held.ensures.gives c.from_residual.result c.from_residual.ensures.1

pub returns-in-Some : goal.returns-in-Some
returns-in-Some g c =
    let h = c.in_ok-held.ensures.gives in
    let last = c.find_value.new.store in
    chained g.met.S.Store.later_still (λ a b text h. g.met.S.Store.keeps_left_out a b text h) (found_from c.args.base.now c.args.name.now c.args.from) (λ found. give (or_undefined found)) h
    (at_same (λ found. give (or_undefined (view_some (g.S.Store.meaning last) found))) (sym c.in-Some.is)
    (answered (record { view = refl; later = g.met.S.Store.at_once last }) (g.S.Store.meaning last c.in-Some.held) refl (subst (owned_some (g.S.Store.owns last)) c.in-Some.is h.owned)))

pub returns-in-None : goal.returns-in-None
returns-in-None g c =
    chained g.met.S.Store.later_still (λ a b text h. g.met.S.Store.keeps_left_out a b text h) (found_from c.args.base.now c.args.name.now c.args.from) (λ found. give (or_undefined found)) c.in_ok-held.ensures.gives
    (at_same (λ found. give (or_undefined (view_some (g.S.Store.meaning c.find_value.new.store) found))) (sym c.in-None.is) c.hold_value.ensures.gives)
