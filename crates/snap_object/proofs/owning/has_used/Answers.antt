use Rattle.std.proofs.Common.{◌∙◌}
use Rattle.snap_graph.specs.declared.value.Value.TheVariants.{Text}
use Rattle.spec_values.specs.Access.{named_key}
use Rattle.spec_values.specs.Asking.{has_own_named}
use Rattle.snap_action.proofs.Follows.{at_same, chained, cut_off}
use Rattle.snap_object.proofs.Growing.{has_own_named_grows}
use Rattle.snap_object.proofs.owning.has_used.Goals as goal

pub returns-in_err-key-clause-gives : goal.returns-in_err-key-clause-gives
returns-in_err-key-clause-gives g c =
    cut_off (named_key (Text c.args.name.now.text)) (has_own_named c.args.node) (has_own_named_grows c.args.node) c.in_err-key.ensures.gives c.from_residual.result c.from_residual.ensures.1

pub returns-clause-gives : goal.returns-clause-gives
returns-clause-gives g c =
    chained g.met.S.Store.later_still (λ a b text h. g.met.S.Store.keeps_left_out a b text h) (named_key (Text c.args.name.now.text)) (has_own_named c.args.node) c.in_ok-key.ensures.gives
    (at_same (has_own_named c.args.node) (c.text.ensures ∙ c.in_ok-key.ensures.kept.text) c.has_named.ensures)
