use Rattle.std.proofs.Common.{refl, subst}
use Rattle.snap_graph.specs.declared.value.Value.TheVariants.{Text}
use Rattle.spec_values.specs.Access.{delete}
use Rattle.snap_action.proofs.Follows.{alike, at_same, unmet}
use Rattle.snap_object.specs.Names.{IsNameOf}
use Rattle.snap_object.specs.Parts.{unspelled}
use Rattle.snap_object.specs.Texts.{without_units}
use Rattle.snap_object.proofs.Bases.{delete_alike}
use Rattle.snap_object.proofs.Finding.{unspelled_so}
use Rattle.snap_object.proofs.Growing.{delete_grows}
use Rattle.snap_object.proofs.Naming.{delete_same, delete_unspelled, unasked}
use Rattle.snap_object.proofs.deleting.delete.Goals as goal

pub returns-in_err-base : goal.returns-in_err-base
returns-in_err-base g c = unmet (record { view = refl; later = g.met.S.Store.at_once c.args.store.now }) (delete_grows (g.S.Store.meaning c.args.store.now c.args.base.now) c.args.key.now) c.from_residual.result c.from_residual.ensures.1

pub returns-in_err-name : goal.returns-in_err-name
returns-in_err-name g c = unmet (record { view = refl; later = g.met.S.Store.at_once c.args.store.now }) (delete_grows (g.S.Store.meaning c.args.store.now c.args.base.now) c.args.key.now) c.from_residual-in_err-name.result c.from_residual-in_err-name.ensures.1

pub delete_of-requires-clause-known : goal.delete_of-requires-clause-known
delete_of-requires-clause-known g c = let is = subst (IsNameOf c.args.key.now) c.in-Some.is c.in_ok-name.ensures in unasked (g.S.Store.key_of c.args.store.now) _ is.2

pub returns-in-Some : goal.returns-in-Some
returns-in-Some g c =
    let name = c.in-Some.name in
    let is = subst (IsNameOf c.args.key.now) c.in-Some.is c.in_ok-name.ensures in
    alike (delete (without_units (g.S.Store.meaning c.args.store.now c.args.base.now)) c.args.key.now) (delete (g.S.Store.meaning c.args.store.now c.args.base.now) c.args.key.now) (λ keys. delete_alike (g.S.Store.meaning c.args.store.now c.args.base.now) c.args.key.now _)
    (at_same (λ base. delete base c.args.key.now) c.in_ok-base.ensures.value
    (alike (delete c.in_ok-base.base (Text name.text)) (delete c.in_ok-base.base c.args.key.now) (λ keys. delete_same c.args.key.now name.text is.0 is.1 c.in_ok-base.base _) c.delete_of.ensures.gives))

pub returns : goal.returns
returns g c =
    let none = subst (IsNameOf c.args.key.now) c.in-None.is c.in_ok-name.ensures in
    alike (delete (without_units (g.S.Store.meaning c.args.store.now c.args.base.now)) c.args.key.now) (delete (g.S.Store.meaning c.args.store.now c.args.base.now) c.args.key.now) (λ keys. delete_alike (g.S.Store.meaning c.args.store.now c.args.base.now) c.args.key.now _)
    (at_same (λ base. delete base c.args.key.now) c.in_ok-base.ensures.value
    (alike (unspelled c.in_ok-base.base) (delete c.in_ok-base.base c.args.key.now) (λ keys. delete_unspelled c.args.key.now none c.in_ok-base.base _) (unspelled_so c.in_ok-base.base c.unspelled.ensures)))
