use Rattle.spec_values.specs.Answer.{give}
use Rattle.snap_action.proofs.Follows.{chained, cut_off}
use Rattle.snap_action.proofs.Growing.{give_grows}
use Rattle.snap_action.proofs.literals.hold_first.Goals as goal

pub returns-in_err-first-clause-gives : goal.returns-in_err-first-clause-gives
returns-in_err-first-clause-gives g c =
    cut_off (give c.args.literal.now.value) give (λ value. give_grows value) c.in_err-first.ensures.gives c.from_residual.result c.from_residual.ensures.1

pub returns-in_err-held-clause-gives : goal.returns-in_err-held-clause-gives
returns-in_err-held-clause-gives g c =
    chained g.met.S.Store.later_still (λ a b text h. g.met.S.Store.keeps_left_out a b text h) (give c.args.literal.now.value) give c.in_ok-first.ensures.gives
    (cut_off (give (g.S.Store.meaning c.hold_value.new.store c.in_ok-first.first)) give (λ value. give_grows value) c.in_err-held.ensures.gives c.from_residual-in_err-held.result c.from_residual-in_err-held.ensures.1)

pub returns-clause-gives : goal.returns-clause-gives
returns-clause-gives g c =
    chained g.met.S.Store.later_still (λ a b text h. g.met.S.Store.keeps_left_out a b text h) (give c.args.literal.now.value) give c.in_ok-first.ensures.gives c.in_ok-held.ensures.gives
