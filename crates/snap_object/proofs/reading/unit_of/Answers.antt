use Rattle.std.proofs.Common.{◌<◌, ◌≤◌, length, sym, ap, arith}
use Rattle.std.proofs.lemmas.Option.{slice_get_past}
use Rattle.snap_store.specs.Calls.{units_in}
use Rattle.spec_values.specs.Access.{unit_or_undefined}
use Rattle.spec_values.specs.Answer.{give}
use Rattle.snap_action.proofs.Follows.{at_same}
use Rattle.snap_object.proofs.Bases.{one_unit}
use Rattle.snap_object.proofs.reading.unit_of.Goals as goal

pub returns-then-place-length : goal.returns-then-place-length
returns-then-place-length g c =
    let text = units_in (g.S.Store.meaning c.args.store.now c.args.text.now) in
    let below : c.args.place < length text = omega (arith, c.length_of-length.ensures, c.if-place-length.true) in
    at_same give (one_unit text c.args.place below) c.part_of_text.ensures.gives

pub returns-else-place-length : goal.returns-else-place-length
returns-else-place-length g c =
    let text = units_in (g.S.Store.meaning c.args.store.now c.args.text.now) in
    let past : length text ≤ c.args.place = omega (arith, c.length_of-length.ensures, c.if-place-length.false) in
    at_same give (ap unit_or_undefined (sym (slice_get_past text c.args.place past))) c.hold_value.ensures.gives
