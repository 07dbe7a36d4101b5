use Rattle.std.proofs.Common.{sym, ap, ◌∙◌}
use Rattle.spec_values.specs.Access.{or_stop}
use Rattle.spec_values.specs.Answer.{give}
use Rattle.spec_values.specs.Operators.{unary_value}
use Rattle.snap_action.proofs.Follows.{at_same, cut_off}
use Rattle.snap_action.proofs.Growing.{or_stop_grows}
use Rattle.snap_apply.proofs.operators.apply_number.Goals as goal

pub returns-in_err-value-clause-gives : goal.returns-in_err-value-clause-gives
returns-in_err-value-clause-gives g c =
    cut_off (give (g.S.Store.meaning c.args.store.now c.args.held.now)) (λ value. or_stop (unary_value c.args.op value)) (λ value. or_stop_grows (unary_value c.args.op value)) c.in_err-value.ensures.gives c.from_residual.result c.from_residual.ensures.1

pub returns-in-Ok-clause-gives : goal.returns-in-Ok-clause-gives
returns-in-Ok-clause-gives g c = at_same or_stop (sym c.in-Ok.ensures.value ∙ ap (unary_value c.args.op) c.in_ok-value.ensures.value) c.hold_value.ensures.gives
