use Rattle.std.proofs.Common.{◌≡◌, length, sym, ◌∙◌}
use Rattle.std.proofs.lemmas.Bool.Decides.{Decides-eqb}
use Rattle.std.proofs.lemmas.Slice.Eq.{slice_eq-Decides}
use Rattle.snap_ctxfmt.proofs.Fronts.{same_front, same_rest}
use Rattle.snap_ctxfmt.proofs.fields.come_next.Goals as goal

pub returns-in-Ok-clause-only : goal.returns-in-Ok-clause-only
returns-in-Ok-clause-only c = λ rest e.
    let field = c.in-Ok.field.now in
    let taken = c.in-Ok.ensures.taken in
    let len : length field ≡ length c.args.bytes.now = taken.1 in
    let both = sym taken.0 ∙ e in
    let tested = slice_eq-Decides Decides-eqb field c.args.bytes.now c.eq.result c.eq.ensures in
    (tested.1 (same_front field c.args.bytes.now c.take.new.self.left rest len both), same_rest field c.args.bytes.now c.take.new.self.left rest len both)
