use Rattle.std.proofs.Common.{◌≡◌, ◌<◌, ◌^◌, ◌++◌, Some, ap, ◌∙◌, arith}
use Rattle.spec_format.specs.Varint.{varint}
use Rattle.spec_format.proofs.Spellings.{varint_spelled, one_spelling}
use Rattle.snap_bytes.proofs.number.read_number.Goals as goal

pub returns-in-Ok-clause-some : goal.returns-in-Ok-clause-some
returns-in-Ok-clause-some c =
    let n = c.in-Ok.n in
    let small : n < 2 ^ 64 = omega arith in
    let read = c.in-Ok.ensures.number in
    read.2 ∙ ap (λ w. w ++ c.varint.new.self.left) (one_spelling read.0 (varint n) n read.1 (varint_spelled n small))

pub returns-in-Ok-clause-only : goal.returns-in-Ok-clause-only
returns-in-Ok-clause-only c = λ n rest small e.
    let read = c.in-Ok.ensures.only (varint n) rest n small (varint_spelled n small) e in
    let same : c.in-Ok.n ≡ n = cc in
    (ap Some same, read.1)

pub returns-in-Err-clause-only : goal.returns-in-Err-clause-only
returns-in-Err-clause-only c = λ n rest small e.
    let read = c.in-Err.ensures.only (varint n) rest n small (varint_spelled n small) e in
    absurd (cc)
