use Rattle.std.proofs.Common.{refl, subst}
use Rattle.snap_graph.specs.declared.value.Value.TheVariants.{Text}
use Rattle.spec_values.specs.Access.{set}
use Rattle.snap_action.proofs.Follows.{alike, unmet}
use Rattle.snap_object.specs.Names.{IsNameOf}
use Rattle.snap_object.specs.Parts.{unspelled}
use Rattle.snap_object.proofs.Finding.{unspelled_so}
use Rattle.snap_object.proofs.Growing.{set_grows}
use Rattle.snap_object.proofs.Naming.{set_same, set_unspelled, unasked}
use Rattle.snap_object.proofs.writing.set_spelled.Goals as goal

pub returns-in_err-name : goal.returns-in_err-name
returns-in_err-name g c = unmet (record { view = refl; later = g.met.S.Store.at_once c.args.store.now }) (set_grows c.args.base.now c.args.key.now (g.S.Store.meaning c.args.store.now c.args.held.now)) c.from_residual.result c.from_residual.ensures.1

pub set_of-requires-clause-known : goal.set_of-requires-clause-known
set_of-requires-clause-known g c = let is = subst (IsNameOf c.args.key.now) c.in-Some.is c.in_ok-name.ensures in unasked (g.S.Store.key_of c.args.store.now) _ is.2

pub returns-in-Some : goal.returns-in-Some
returns-in-Some g c =
    let name = c.in-Some.name in
    let is = subst (IsNameOf c.args.key.now) c.in-Some.is c.in_ok-name.ensures in
    alike (set c.args.base.now (Text name.text) (g.S.Store.meaning c.args.store.now c.args.held.now)) (set c.args.base.now c.args.key.now (g.S.Store.meaning c.args.store.now c.args.held.now)) (λ keys. set_same c.args.key.now name.text is.0 is.1 c.args.base.now (g.S.Store.meaning c.args.store.now c.args.held.now) _) c.set_of.ensures.gives

pub returns-in-None : goal.returns-in-None
returns-in-None g c =
    let none = subst (IsNameOf c.args.key.now) c.in-None.is c.in_ok-name.ensures in
    alike (unspelled c.args.base.now) (set c.args.base.now c.args.key.now (g.S.Store.meaning c.args.store.now c.args.held.now)) (λ keys. set_unspelled c.args.key.now none c.args.base.now (g.S.Store.meaning c.args.store.now c.args.held.now) _) (unspelled_so c.args.base.now c.unspelled.ensures)
