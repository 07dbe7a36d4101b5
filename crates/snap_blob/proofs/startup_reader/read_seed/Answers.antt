use Rattle.std.proofs.Common.{◌++◌, length, ap, sym, ◌∙◌, refl, arith}
use Rattle.std.proofs.lemmas.List.{length-append}
use Rattle.spec_format.specs.Number.{spelled64}
use Rattle.snap_blob.proofs.Parts.{length-spelled64, same_rest}
use Rattle.snap_blob.proofs.startup_reader.read_seed.Goals as goal

pub returns-in-Ok-clause-some : goal.returns-in-Ok-clause-some
returns-in-Ok-clause-some c = c.in-Ok.ensures.taken.0 ∙ ap (λ w. w ++ c.take.new.self.left) c.number64.ensures

pub returns-in-Ok-clause-only : goal.returns-in-Ok-clause-only
returns-in-Ok-clause-only c = λ seed rest e.
    let taken = c.in-Ok.ensures.taken in
    (refl, same_rest c.in-Ok.field.now (spelled64 seed) c.take.new.self.left rest (taken.1 ∙ sym (length-spelled64 seed)) (sym taken.0 ∙ e))

pub returns-in-Err-clause-only : goal.returns-in-Err-clause-only
returns-in-Err-clause-only c = λ seed rest e.
    let short = c.in-Err.ensures.truncated.0 in
    absurd (omega (arith, ap length e, short, length-append (spelled64 seed) rest, length-spelled64 seed))
