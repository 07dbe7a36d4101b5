use Rattle.std.proofs.lemmas.List.{append-nil, drop_all}
use Rattle.std.proofs.Common.{append_assoc, get_or}
use Rattle.snap_text.specs.Utf8.{utf8_of}
use Rattle.snap_arena.proofs.Prints.{from_small}
use Rattle.std.proofs.Common.{◌+◌, ◌≤◌, ◌++◌, length, take, drop, ℕ, List, vec_len, encode_utf8, sym, ap, ◌∙◌, arith, length-take}
use Rattle.std.proofs.lemmas.List.{take-append-le}
use Rattle.snap_arena.proofs.view.append.Goals as goal

pub loop-byte-preserved : goal.loop-byte-preserved
loop-byte-preserved c =
    let at = c.loop-byte.byte-index in
    let byte = get_or c.args.bytes.now at 0 in
    let room : vec_len c.args.out.now ≤ length c.loop-byte.out.items = omega (arith, ap length c.loop-byte.invariant.kept, length-take (vec_len c.args.out.now) c.loop-byte.out.items, c.args.out.now.ok) in
    record {
      whole = ap (λ (out : List ℕ). out ++ utf8_of (drop (at + 1) c.args.bytes.now)) c.in_ok-append_byte.ensures.ok ∙ append_assoc c.loop-byte.out.items (encode_utf8 byte) (utf8_of (drop (at + 1) c.args.bytes.now)) ∙ ap (λ (rest : List ℕ). c.loop-byte.out.items ++ rest) (sym (from_small c.args.bytes.now at (omega arith) (omega (arith, c.type_inv.bytes at)))) ∙ c.loop-byte.invariant.whole;
      kept = ap (take (vec_len c.args.out.now)) c.in_ok-append_byte.ensures.ok ∙ take-append-le (vec_len c.args.out.now) c.loop-byte.out.items (encode_utf8 byte) room ∙ c.loop-byte.invariant.kept;
    }

pub returns-clause-ok : goal.returns-clause-ok
unfolding utf8_of
returns-clause-ok c =
    sym (append-nil c.loop-byte.out.items) ∙ ap (λ rest. c.loop-byte.out.items ++ utf8_of rest) (sym (drop_all c.loop-byte.byte-index c.args.bytes.now (omega arith))) ∙ c.loop-byte.invariant.whole
