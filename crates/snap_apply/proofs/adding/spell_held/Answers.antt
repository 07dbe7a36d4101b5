use Rattle.std.proofs.Common.{refl, sym, ap, ◌∙◌, Err}
use Rattle.snap_graph.specs.declared.value.Value.TheVariants.{Text}
use Rattle.spec_values.specs.Conversions.{text_of}
use Rattle.snap_action.specs.declared.fault.Abrupt.TheVariants.{NoMemory}
use Rattle.spec_values.specs.Access.{or_stop}
use Rattle.spec_values.specs.Answer.{give}
use Rattle.snap_action.specs.Gives.{standing}
use Rattle.snap_action.proofs.Follows.{alike, cut_off, unmet}
use Rattle.snap_action.proofs.Growing.{or_stop_grows}
use Rattle.snap_apply.specs.Judged.{spelled}
use Rattle.snap_apply.proofs.Spelling.{given, spells, spells_itself, text_given}
use Rattle.snap_apply.proofs.adding.spell_held.Goals as goal

pub returns-then-is_text-clause-gives : goal.returns-then-is_text-clause-gives
returns-then-is_text-clause-gives g c =
    let store = c.args.store.now in
    let value = g.S.Store.meaning store c.args.held.now in
    alike (give value) (or_stop (spelled value)) (λ keys. spells_itself value (standing (g.S.Store.view store) keys) (sym c.is_text.ensures ∙ c.if-is_text.true)) c.hold_again.ensures.gives

pub returns-then-is_text-clause-text : goal.returns-then-is_text-clause-text
returns-then-is_text-clause-text g c =
    let value = g.S.Store.meaning c.args.store.now c.args.held.now in
    text_given (g.S.Store.meaning c.hold_again.new.store) value c.hold_again.result (sym c.is_text.ensures ∙ c.if-is_text.true) (given value c.hold_again.result c.hold_again.ensures.gives)

pub returns-in_err-value-clause-gives : goal.returns-in_err-value-clause-gives
returns-in_err-value-clause-gives g c =
    cut_off (give (g.S.Store.meaning c.args.store.now c.args.held.now)) (λ value. or_stop (spelled value)) (λ value. or_stop_grows (spelled value)) c.in_err-value.ensures.gives c.from_residual.result c.from_residual.ensures.1

pub returns-in-Ok-clause-gives : goal.returns-in-Ok-clause-gives
returns-in-Ok-clause-gives g c =
    let store = c.args.store.now in
    let value = g.S.Store.meaning store c.args.held.now in
    alike (give (Text c.in-Ok.text)) (or_stop (spelled value)) (λ keys. spells value c.in-Ok.text (standing (g.S.Store.view store) keys) (ap text_of (sym c.in_ok-value.ensures.value) ∙ c.in-Ok.ensures)) c.hold_value.ensures.gives

pub returns-clause-gives : goal.returns-clause-gives
returns-clause-gives g c =
    let store = c.args.store.now in
    unmet (record { view = refl; later = g.met.S.Store.at_once store }) (or_stop_grows (spelled (g.S.Store.meaning store c.args.held.now))) (Err NoMemory) refl
