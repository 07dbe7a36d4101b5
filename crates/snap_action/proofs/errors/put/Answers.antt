use Rattle.std.proofs.Common.{length, List, sym, subst, ◌∙◌, ap}
use Rattle.snap_graph.specs.declared.node.Node.{Node}
use Rattle.snap_graph.specs.Values.{IsValue}
use Rattle.snap_store.specs.View.{View}
use Rattle.spec_values.specs.Answer.{give, use_key}
use Rattle.spec_values.specs.Operations.{put_own}
use Rattle.snap_action.specs.Errors.{put_named}
use Rattle.snap_action.proofs.Follows.{at_same, chained, cut_off}
use Rattle.snap_action.proofs.Growing.{put_grows}
use Rattle.snap_action.proofs.Throwing.{put_named_grows}
use Rattle.snap_action.proofs.errors.put.Goals as goal

pub returns-in_err-value : goal.returns-in_err-value
returns-in_err-value g c =
    cut_off (give c.args.value.now) (λ value. put_named c.args.error c.args.name.now value) (λ value. put_named_grows c.args.error c.args.name.now value) c.in_err-value.ensures.gives c.from_residual.result c.from_residual.ensures.1

pub returns-in_err-key : goal.returns-in_err-key
returns-in_err-key g c =
    let value = g.S.Store.meaning c.hold_value.new.store c.in_ok-value.value in
    chained g.met.S.Store.later_still (λ a b text h. g.met.S.Store.keeps_left_out a b text h) (give c.args.value.now) (λ value. put_named c.args.error c.args.name.now value) c.in_ok-value.ensures.gives
    (cut_off (use_key c.args.name.now) (λ used. put_own c.args.error c.args.name.now value) (λ used. put_grows c.args.error c.args.name.now value) c.in_err-key.ensures.gives c.from_residual-in_err-key.result c.from_residual-in_err-key.ensures.1)

pub put_property-requires-clause-value : goal.put_property-requires-clause-value
put_property-requires-clause-value g c =
    let h = c.in_ok-value.ensures in
    let k = c.in_ok-key.ensures in
    let same = g.met.S.Store.keeps_meaning c.hold_value.new.store c.use_text.new.store c.in_ok-value.value k.gives.later h.gives.owned ∙ h.meaning in
    subst (λ (nodes : List Node). IsValue (length nodes) (g.S.Store.meaning c.use_text.new.store c.in_ok-value.value)) (sym (k.nodes ∙ ap (λ (view : View). view.nodes) h.view))
    (subst (λ value. IsValue (length (g.S.Store.view c.args.store.now).nodes) value) (sym same) c.requires.value)

pub returns : goal.returns
returns g c =
    let h = c.in_ok-value.ensures in
    let k = c.in_ok-key.ensures in
    let same = g.met.S.Store.keeps_meaning c.hold_value.new.store c.use_text.new.store c.in_ok-value.value k.gives.later h.gives.owned in
    let value = g.S.Store.meaning c.hold_value.new.store c.in_ok-value.value in
    chained g.met.S.Store.later_still (λ a b text h. g.met.S.Store.keeps_left_out a b text h) (give c.args.value.now) (λ value. put_named c.args.error c.args.name.now value) h.gives
    (chained g.met.S.Store.later_still (λ a b text h. g.met.S.Store.keeps_left_out a b text h) (use_key c.args.name.now) (λ used. put_own c.args.error c.args.name.now value) k.gives
    (at_same (λ value. put_own c.args.error c.args.name.now value) same c.put_property.ensures))
