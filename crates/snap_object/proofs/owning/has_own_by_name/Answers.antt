use Rattle.std.proofs.Common.{refl, sym, ◌∙◌}
use Rattle.snap_graph.specs.declared.value.Value.TheVariants.{Text}
use Rattle.spec_values.specs.Asking.{has_own}
use Rattle.snap_action.proofs.Follows.{at_same, unmet}
use Rattle.snap_object.proofs.Bases.{is_its_text}
use Rattle.snap_object.proofs.Growing.{has_own_grows}
use Rattle.snap_object.proofs.owning.has_own_by_name.Goals as goal

pub returns-then-is_text-clause-gives : goal.returns-then-is_text-clause-gives
returns-then-is_text-clause-gives g c =
    let base = g.S.Store.meaning c.args.store.now c.args.base.now in
    at_same (λ base. has_own base (Text c.args.name.now.text)) (is_its_text base (sym c.is_text.ensures ∙ c.if-is_text.true)) c.text_has_own.ensures.gives

pub returns-in_err-base-clause-gives : goal.returns-in_err-base-clause-gives
returns-in_err-base-clause-gives g c = unmet (record { view = refl; later = g.met.S.Store.at_once c.args.store.now }) (has_own_grows (g.S.Store.meaning c.args.store.now c.args.base.now) (Text c.args.name.now.text)) c.from_residual.result c.from_residual.ensures.1

pub returns-clause-gives : goal.returns-clause-gives
returns-clause-gives g c = at_same (λ base. has_own base (Text c.args.name.now.text)) c.in_ok-base.ensures c.value_has_own.ensures.gives
