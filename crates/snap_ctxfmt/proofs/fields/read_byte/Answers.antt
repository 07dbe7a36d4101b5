use Rattle.std.proofs.Common.{sym, ◌∙◌}
use Rattle.snap_ctxfmt.proofs.Fronts.{one_byte}
use Rattle.snap_ctxfmt.proofs.fields.read_byte.Goals as goal

pub returns-in-Ok-clause-only : goal.returns-in-Ok-clause-only
returns-in-Ok-clause-only c = λ byte rest e.
    let taken = c.in-Ok.ensures.taken in
    let read = one_byte c.in-Ok.field.now _ c.take.new.self.left taken.1 taken.0 in
    let both = sym read ∙ e in
    (cc, cc)
