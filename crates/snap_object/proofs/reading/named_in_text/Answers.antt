use Rattle.std.proofs.Common.{sym, ◌∙◌}
use Rattle.snap_graph.specs.declared.intrinsic.TheConstants.{STRING_PROTOTYPE}
use Rattle.snap_graph.specs.declared.value.Value.TheVariants.{Text, Undefined}
use Rattle.snap_store.specs.Calls.{units_in}
use Rattle.spec_values.specs.Access.{count_value}
use Rattle.snap_action.specs.Gives.{standing}
use Rattle.snap_action.proofs.Follows.{alike, at_same}
use Rattle.snap_object.specs.Parts.{looked_up}
use Rattle.snap_object.proofs.Bases.{look_up_alike}
use Rattle.snap_object.proofs.Finding.{string_is_there, text_length, text_other}
use Rattle.snap_object.proofs.reading.named_in_text.Goals as goal

pub look_up-requires-clause-number : goal.look_up-requires-clause-number
look_up-requires-clause-number g c = string_is_there (g.S.Store.view c.args.store.now).nodes (g.met.S.Store.lawful c.args.store.now)

pub returns-then-is_word : goal.returns-then-is_word
returns-then-is_word g c =
    text_length (units_in (g.S.Store.meaning c.args.store.now c.args.text.now)) c.args.name.now (sym c.is_word.ensures ∙ c.if-is_word.true) (at_same count_value c.length_of-length.ensures c.hold_count.ensures.gives)

pub returns : goal.returns
returns g c =
    let text = units_in (g.S.Store.meaning c.args.store.now c.args.text.now) in
    let name = c.args.name.now in
    text_other text name (sym c.is_word.ensures ∙ c.if-is_word.false)
    (alike (looked_up Undefined name STRING_PROTOTYPE) (looked_up (Text text) name STRING_PROTOTYPE) (λ keys. look_up_alike text name (standing (g.S.Store.view c.args.store.now) keys)) c.look_up.ensures)
