use Rattle.spec_values.specs.Answer.{give}
use Rattle.snap_action.proofs.Follows.{at_same, cut_off}
use Rattle.snap_action.proofs.Growing.{give_grows}
use Rattle.snap_action.proofs.texts.copy_plain.Goals as goal

pub returns-in_err-value-clause-gives : goal.returns-in_err-value-clause-gives
returns-in_err-value-clause-gives g c =
    cut_off (give (g.S.Store.meaning c.args.store.now c.args.held.now)) give (λ value. give_grows value) c.in_err-value.ensures.gives c.from_residual.result c.from_residual.ensures.1

pub returns-clause-gives : goal.returns-clause-gives
returns-clause-gives g c = at_same give c.in_ok-value.ensures.value c.hold_value.ensures.gives
