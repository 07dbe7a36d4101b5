use Rattle.std.proofs.Common.{refl, subst}
use Rattle.snap_graph.specs.declared.value.Value.TheVariants.{Text}
use Rattle.snap_store.specs.Calls.{units_in}
use Rattle.spec_values.specs.Access.{get}
use Rattle.snap_base.specs.declared.stop.Stop.TheVariants.{NotInProfile}
use Rattle.snap_action.proofs.Follows.{alike, stopped, unmet}
use Rattle.snap_object.specs.Names.{IsNameOf}
use Rattle.snap_object.specs.Parts.{unspelled}
use Rattle.snap_object.proofs.Growing.{get_grows}
use Rattle.snap_object.proofs.Naming.{get_same, get_unspelled, unasked}
use Rattle.snap_object.proofs.reading.spelled_of_text.Goals as goal

pub returns-in_err-name : goal.returns-in_err-name
returns-in_err-name g c =
    let store = c.args.store.now in
    unmet (record { view = refl; later = g.met.S.Store.at_once store }) (get_grows (Text (units_in (g.S.Store.meaning store c.args.text.now))) c.args.key.now) c.from_residual.result c.from_residual.ensures.1

pub get_of_text-requires-clause-known : goal.get_of_text-requires-clause-known
get_of_text-requires-clause-known g c = let is = subst (IsNameOf c.args.key.now) c.in-Some.is c.in_ok-name.ensures in unasked (g.S.Store.key_of c.args.store.now) _ is.2

pub returns-in-Some : goal.returns-in-Some
returns-in-Some g c =
    let base = Text (units_in (g.S.Store.meaning c.args.store.now c.args.text.now)) in
    let name = c.in-Some.name in
    let is = subst (IsNameOf c.args.key.now) c.in-Some.is c.in_ok-name.ensures in
    alike (get base (Text name.text)) (get base c.args.key.now) (λ keys. get_same c.args.key.now name.text is.0 is.1 base _) c.get_of_text.ensures.gives

pub returns-in-None : goal.returns-in-None
returns-in-None g c =
    let base = Text (units_in (g.S.Store.meaning c.args.store.now c.args.text.now)) in
    let none = subst (IsNameOf c.args.key.now) c.in-None.is c.in_ok-name.ensures in
    alike (unspelled base) (get base c.args.key.now) (λ keys. get_unspelled c.args.key.now none base _) (stopped (record { view = refl; later = g.met.S.Store.at_once c.args.store.now }) NotInProfile)
