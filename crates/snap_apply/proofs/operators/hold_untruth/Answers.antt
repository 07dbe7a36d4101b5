use Rattle.std.proofs.Common.{Bool, not}
use Rattle.snap_graph.specs.declared.value.Value.TheVariants.{Bool as Truth}
use Rattle.spec_values.specs.Answer.{give}
use Rattle.spec_values.specs.Conversions.{truth_of}
use Rattle.snap_action.proofs.Follows.{chained, cut_off}
use Rattle.snap_action.proofs.Growing.{give_grows}
use Rattle.snap_apply.proofs.operators.hold_untruth.Goals as goal

pub returns-in_err-truth-clause-gives : goal.returns-in_err-truth-clause-gives
returns-in_err-truth-clause-gives g c =
    cut_off (give (truth_of (g.S.Store.meaning c.args.store.now c.args.held.now))) (λ (b : Bool). give (Truth (not b))) (λ b. give_grows (Truth (not b))) c.in_err-truth.ensures c.from_residual.result c.from_residual.ensures.1

pub returns-clause-gives : goal.returns-clause-gives
returns-clause-gives g c =
    chained g.met.S.Store.later_still (λ a b text h. g.met.S.Store.keeps_left_out a b text h) (give (truth_of (g.S.Store.meaning c.args.store.now c.args.held.now))) (λ (b : Bool). give (Truth (not b))) c.in_ok-truth.ensures c.hold_value.ensures.gives
