use Rattle.std.proofs.Common.{◌∙◌}
use Rattle.snap_graph.specs.declared.value.Value.TheVariants.{Node as At, Text}
use Rattle.spec_values.specs.Access.{named_key}
use Rattle.snap_action.proofs.Follows.{chained, cut_off}
use Rattle.snap_object.specs.Parts.{found_from}
use Rattle.snap_object.proofs.Defined.{found_as}
use Rattle.snap_object.proofs.Growing.{found_from_grows}
use Rattle.snap_object.proofs.globals.find_global.Goals as goal

pub returns-in_err-key-clause-gives : goal.returns-in_err-key-clause-gives
returns-in_err-key-clause-gives g c =
    cut_off (named_key (Text c.args.name.now.text)) (λ name. found_from (At c.args.global) name c.args.global) (λ name. found_from_grows (At c.args.global) name c.args.global) c.in_err-key.ensures.gives c.from_residual.result c.from_residual.ensures.1

pub returns-clause-gives : goal.returns-clause-gives
returns-clause-gives g c =
    chained g.met.S.Store.later_still (λ a b text h. g.met.S.Store.keeps_left_out a b text h) (named_key (Text c.args.name.now.text)) (λ name. found_from (At c.args.global) name c.args.global) c.in_ok-key.ensures.gives
    (found_as c.args.global c.text.result.now c.args.name.now.text (c.text.ensures ∙ c.in_ok-key.ensures.kept.text) c.found_global.ensures.gives)
