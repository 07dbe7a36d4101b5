use Rattle.std.proofs.Common.{inr, refl, length, sym, ap, ◌∙◌, Err}
use Rattle.snap_graph.specs.declared.value.Value.{Value}
use Rattle.snap_action.specs.declared.fault.Abrupt.TheVariants.{NoMemory}
use Rattle.spec_values.specs.Access.{or_stop}
use Rattle.spec_values.specs.Answer.{give}
use Rattle.spec_values.specs.Operators.{binary_value}
use Rattle.snap_action.proofs.Follows.{at_same, cut_off, unmet}
use Rattle.snap_action.proofs.Growing.{or_stop_grows}
use Rattle.snap_apply.proofs.operators.apply_plain.Goals as goal

pub returns-in_err-left-clause-gives : goal.returns-in_err-left-clause-gives
returns-in_err-left-clause-gives g c =
    let right = g.S.Store.meaning c.args.store.now c.args.right.now in
    cut_off (give (g.S.Store.meaning c.args.store.now c.args.left.now)) (λ left. or_stop (binary_value c.args.op left right)) (λ left. or_stop_grows (binary_value c.args.op left right)) c.in_err-left.ensures.gives c.from_residual.result c.from_residual.ensures.1

pub returns-in_err-right-clause-gives : goal.returns-in_err-right-clause-gives
returns-in_err-right-clause-gives g c =
    let left = g.S.Store.meaning c.args.store.now c.args.left.now in
    cut_off (give (g.S.Store.meaning c.args.store.now c.args.right.now)) (λ right. or_stop (binary_value c.args.op left right)) (λ right. or_stop_grows (binary_value c.args.op left right)) c.in_err-right.ensures.gives c.from_residual-in_err-right.result c.from_residual-in_err-right.ensures.1

pub hold_value-requires : goal.hold_value-requires
hold_value-requires g c = inr (c.operators_give_values.ensures.binary (length (g.S.Store.view c.args.store.now).nodes) c.args.op c.in_ok-left.left c.in_ok-right.right c.in-Ok.value c.in-Ok.ensures)

pub returns-in-Ok-clause-gives : goal.returns-in-Ok-clause-gives
returns-in-Ok-clause-gives g c =
    let left = g.S.Store.meaning c.args.store.now c.args.left.now in
    let same = ap (λ (l : Value). binary_value c.args.op l c.in_ok-right.right) c.in_ok-left.ensures.value ∙ ap (λ (r : Value). binary_value c.args.op left r) c.in_ok-right.ensures.value in
    at_same or_stop (sym c.in-Ok.ensures ∙ same) c.hold_value.ensures.gives

pub returns-clause-gives : goal.returns-clause-gives
returns-clause-gives g c =
    let store = c.args.store.now in
    unmet (record { view = refl; later = g.met.S.Store.at_once store }) (or_stop_grows (binary_value c.args.op (g.S.Store.meaning store c.args.left.now) (g.S.Store.meaning store c.args.right.now))) (Err NoMemory) refl
