use Rattle.std.proofs.Common.{refl, subst}
use Rattle.snap_base.specs.declared.stop.Stop.TheVariants.{NotInProfile}
use Rattle.snap_graph.specs.declared.value.Value.TheVariants.{Text}
use Rattle.spec_values.specs.Answer.{stop}
use Rattle.spec_values.specs.Asking.{has_own}
use Rattle.snap_action.proofs.Follows.{alike, stopped, unmet}
use Rattle.snap_object.specs.Names.{IsNameOf}
use Rattle.snap_object.proofs.Growing.{has_own_grows}
use Rattle.snap_object.proofs.Naming.{has_own_same, has_own_unspelled, unasked}
use Rattle.snap_object.proofs.owning.has_own.Goals as goal

pub returns-in_err-name : goal.returns-in_err-name
returns-in_err-name g c = unmet (record { view = refl; later = g.met.S.Store.at_once c.args.store.now }) (has_own_grows (g.S.Store.meaning c.args.store.now c.args.base.now) c.args.key.now) c.from_residual.result c.from_residual.ensures.1

pub has_own_by_name-requires-clause-known : goal.has_own_by_name-requires-clause-known
has_own_by_name-requires-clause-known g c = let is = subst (IsNameOf c.args.key.now) c.in-Some.is c.in_ok-name.ensures in unasked (g.S.Store.key_of c.args.store.now) _ is.2

pub returns-in-Some : goal.returns-in-Some
returns-in-Some g c =
    let base = g.S.Store.meaning c.args.store.now c.args.base.now in
    let is = subst (IsNameOf c.args.key.now) c.in-Some.is c.in_ok-name.ensures in
    alike (has_own base (Text c.in-Some.name.text)) (has_own base c.args.key.now) (λ keys. has_own_same c.args.key.now c.in-Some.name.text is.0 is.1 base _) c.has_own_by_name.ensures.gives

pub returns-in-None : goal.returns-in-None
returns-in-None g c =
    let base = g.S.Store.meaning c.args.store.now c.args.base.now in
    let none = subst (IsNameOf c.args.key.now) c.in-None.is c.in_ok-name.ensures in
    alike (stop NotInProfile) (has_own base c.args.key.now) (λ keys. has_own_unspelled c.args.key.now none base _) (stopped (record { view = refl; later = g.met.S.Store.at_once c.args.store.now }) NotInProfile)
