use Rattle.std.proofs.Common.{ℕ, Option, sym}
use Rattle.snap_store.specs.Calls.{units_in}
use Rattle.spec_values.specs.Access.{get_of_text}
use Rattle.snap_action.proofs.Follows.{at_same}
use Rattle.snap_object.proofs.reading.get_from_text.Goals as goal

pub returns-in-Some : goal.returns-in-Some
returns-in-Some g c =
    let text = units_in (g.S.Store.meaning c.args.store.now c.args.text.now) in
    at_same (λ (place : Option ℕ). get_of_text text c.args.key.now place) (sym c.in-Some.ensures) c.unit_of.ensures
