use Rattle.std.proofs.Common.{◌∙◌}
use Rattle.snap_graph.specs.declared.value.Value.{Value}
use Rattle.snap_graph.specs.declared.value.Value.TheVariants.{Text}
use Rattle.snap_store.specs.Calls.{units_in}
use Rattle.spec_values.specs.Access.{named_key}
use Rattle.snap_action.proofs.Follows.{at_same, chained, cut_off}
use Rattle.snap_object.specs.Parts.{text_rest}
use Rattle.snap_object.proofs.Growing.{text_rest_grows}
use Rattle.snap_object.proofs.Naming.{known_on}
use Rattle.snap_object.proofs.reading.named_of_text.Goals as goal

pub returns-in_err-key-clause-gives : goal.returns-in_err-key-clause-gives
returns-in_err-key-clause-gives g c =
    let text = units_in (g.S.Store.meaning c.args.store.now c.args.text.now) in
    cut_off (named_key (Text c.args.name.now.text)) (text_rest text) (text_rest_grows text) c.in_err-key.ensures.gives c.from_residual.result c.from_residual.ensures.1

pub returns-clause-gives : goal.returns-clause-gives
returns-clause-gives g c =
    let text = units_in (g.S.Store.meaning c.args.store.now c.args.text.now) in
    let same = g.met.S.Store.keeps_meaning c.args.store.now c.named_key.new.store c.args.text.now c.in_ok-key.ensures.gives.later c.requires.owned in
    chained g.met.S.Store.later_still (λ a b text h. g.met.S.Store.keeps_left_out a b text h) (named_key (Text c.args.name.now.text)) (text_rest text) c.in_ok-key.ensures.gives
    (at_same (text_rest text) (c.text.ensures ∙ c.in_ok-key.ensures.kept.text) (at_same (λ (value : Value). text_rest (units_in value) c.text.result.now) same c.named_in_text.ensures))

pub returns-clause-kept : goal.returns-clause-kept
returns-clause-kept g c =
    known_on (g.S.Store.key_of c.named_key.new.store) (g.S.Store.key_of c.named_in_text.new.store) c.args.name.now c.named_key.new.name
    (g.met.S.Store.keeps_keys c.named_key.new.store c.named_in_text.new.store c.named_in_text.ensures.later) c.in_ok-key.ensures.kept
