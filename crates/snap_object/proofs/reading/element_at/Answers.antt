use Rattle.std.proofs.Common.{◌≤◌, length, refl, arith}
use Rattle.spec_values.specs.Operations.{elements_of}
use Rattle.snap_action.proofs.Follows.{answered}
use Rattle.snap_object.proofs.Finding.{element_past, element_there}
use Rattle.snap_object.proofs.reading.element_at.Goals as goal

pub returns-then-place-count : goal.returns-then-place-count
returns-then-place-count g c = element_there c.args.node c.args.place _ c.element.ensures.meaning (answered (record { view = refl; later = g.met.S.Store.at_once c.args.store.now }) _ refl c.element.ensures.owned)

pub returns-else-place-count : goal.returns-else-place-count
returns-else-place-count g c =
    let past : length (elements_of (g.S.Store.view c.args.store.now).nodes c.args.node) ≤ c.args.place = omega (arith, c.count.ensures, c.if-place-count.false) in
    element_past c.args.node c.args.place past c.hold_value.ensures.gives
