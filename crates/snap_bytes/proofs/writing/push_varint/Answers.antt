use Rattle.std.proofs.Common.{◌+◌, ◌/◌, ◌%◌, ◌∷◌, [], refl, ◌∙◌, arith}
use Rattle.snap_bytes.proofs.Varints.{IsVarint-more, pushed-tail, kept-push}
use Rattle.snap_bytes.proofs.writing.push_varint.Goals as goal

pub loop-high-preserved : goal.loop-high-preserved
loop-high-preserved c =
    let high = c.loop-high.high in
    let byte = high % 128 + 128 in
    record {
      completes = λ tail spelled.
          let done = c.loop-high.invariant.completes (byte ∷ tail) (IsVarint-more byte high (high / 128) tail (omega arith) (omega arith) (omega arith) (omega arith) spelled) in
          (done.0, done.1, pushed-tail c.loop-high.out.items _ tail _ byte c.in_ok-push.ensures.items done.2);
      kept = rw c.in_ok-push.ensures.items (kept-push _ _ _ c.loop-high.invariant.kept);
    }

pub returns-clause-ok : goal.returns-clause-ok
returns-clause-ok c =
    let high = c.loop-high.high in
    let done = c.loop-high.invariant.completes (high ∷ []) (omega arith, refl) in
    (done.0, done.1, c.in_ok-push-2.ensures.items ∙ done.2)
