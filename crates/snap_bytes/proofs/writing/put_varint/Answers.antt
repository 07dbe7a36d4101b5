use Rattle.std.proofs.Common.{◌++◌, List, ℕ, ap, ◌∙◌, arith}
use Rattle.spec_format.specs.Varint.{varint}
use Rattle.spec_format.proofs.Spellings.{varint_spelled, one_spelling}
use Rattle.snap_bytes.proofs.writing.put_varint.Goals as goal

pub returns-in-Ok-clause-number : goal.returns-in-Ok-clause-number
returns-in-Ok-clause-number c =
    let n = c.args.n in
    let done = c.in-Ok.ensures.ok in
    done.2 ∙ ap (λ (text : List ℕ). c.args.out.now.items ++ text) (one_spelling done.0 (varint n) n done.1 (varint_spelled n (omega arith)))
