use Rattle.std.proofs.Common.{is_some, refl, ◌∙◌}
use Rattle.snap_graph.specs.declared.value.Value.TheVariants.{Node as At}
use Rattle.spec_values.specs.Answer.{give}
use Rattle.snap_action.proofs.Follows.{answered, chained, cut_off}
use Rattle.snap_action.proofs.Growing.{give_grows}
use Rattle.snap_object.specs.Parts.{found_from}
use Rattle.snap_object.proofs.Defined.{seen_some}
use Rattle.snap_object.proofs.globals.is_defined.Goals as goal

pub returns-in_err-find_value-clause-gives : goal.returns-in_err-find_value-clause-gives
returns-in_err-find_value-clause-gives g c =
    cut_off (found_from (At c.args.global) c.args.name.now c.args.global) (λ found. give (is_some found)) (λ found. give_grows (is_some found)) c.in_err-find_value.ensures.gives c.from_residual.result c.from_residual.ensures.1

pub returns-clause-gives : goal.returns-clause-gives
returns-clause-gives g c =
    chained g.met.S.Store.later_still (λ a b text h. g.met.S.Store.keeps_left_out a b text h) (found_from (At c.args.global) c.args.name.now c.args.global) (λ found. give (is_some found)) c.in_ok-find_value.ensures.gives
    (answered (record { view = refl; later = g.met.S.Store.at_once c.find_value.new.store }) _ (c.is_some.ensures ∙ seen_some (g.S.Store.meaning c.find_value.new.store) c.in_ok-find_value.field-0) tt)
