use Rattle.std.proofs.Common.{◌≡◌, length, sym, ◌∙◌}
use Rattle.std.proofs.lemmas.Bool.Decides.{Decides-eqb}
use Rattle.std.proofs.lemmas.Slice.Eq.{slice_eq-Decides}
use Rattle.snap_ctxfmt.proofs.Fronts.{nothing_left}
use Rattle.snap_ctxfmt.proofs.fields.are_left.Goals as goal

pub returns-in-Ok : goal.returns-in-Ok
returns-in-Ok c =
    let taken = c.in-Ok.ensures.taken in
    let all : length c.in-Ok.field.now ≡ length c.args.cursor.now.left = taken.1 ∙ c.left-left.ensures in
    let same = nothing_left c.in-Ok.field.now c.args.cursor.now.left c.take.new.self.left all taken.0 in
    let tested = slice_eq-Decides Decides-eqb c.in-Ok.field.now c.args.bytes.now c.eq.result c.eq.ensures in
    (λ yes. same ∙ tested.0 yes, λ e. tested.1 (sym same ∙ e))
