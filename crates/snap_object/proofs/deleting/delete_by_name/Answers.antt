use Rattle.std.proofs.Common.{refl}
use Rattle.snap_graph.specs.declared.value.Value.TheVariants.{Text}
use Rattle.spec_values.specs.Access.{delete}
use Rattle.snap_action.proofs.Follows.{alike, at_same, unmet}
use Rattle.snap_object.specs.Texts.{without_units}
use Rattle.snap_object.proofs.Bases.{delete_alike}
use Rattle.snap_object.proofs.Growing.{delete_grows}
use Rattle.snap_object.proofs.deleting.delete_by_name.Goals as goal

pub returns-in_err-base-clause-gives : goal.returns-in_err-base-clause-gives
returns-in_err-base-clause-gives g c = unmet (record { view = refl; later = g.met.S.Store.at_once c.args.store.now }) (delete_grows (g.S.Store.meaning c.args.store.now c.args.base.now) (Text c.args.name.now.text)) c.from_residual.result c.from_residual.ensures.1

pub returns-clause-gives : goal.returns-clause-gives
returns-clause-gives g c =
    let base = g.S.Store.meaning c.args.store.now c.args.base.now in
    let key = Text c.args.name.now.text in
    alike (delete (without_units base) key) (delete base key) (λ keys. delete_alike base key _) (at_same (λ base. delete base key) c.in_ok-base.ensures.value c.delete_of.ensures.gives)
