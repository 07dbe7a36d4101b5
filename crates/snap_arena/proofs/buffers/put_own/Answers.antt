use Rattle.std.proofs.Common.{◌≡◌, ◌<◌, ◌++◌, [], length, take, drop, slice_index_or, ℕ, List, sym, ap, ◌∙◌, arith}
use Rattle.snap_arena.specs.Texts.{IsHeld, contents, text_in}
use Rattle.snap_arena.proofs.Contents.{anyhow, part_range, stands_at, with_more, with_same}
use Rattle.snap_arena.proofs.buffers.put_own.Goals as goal

pub extend_from_within-requires-clause-in_bounds : goal.extend_from_within-requires-clause-in_bounds
unfolding IsHeld
extend_from_within-requires-clause-in_bounds c =
    let there = stands_at c.args.buffers.now.items c.args.text.buffer c.index_mut.result.now (omega (arith, c.args.buffers.now.ok)) c.index_mut.ensures.value in
    omega (arith, ap length there, c.index_mut.result.now.ok)

pub returns-in_err-extend_from_within-clause-err : goal.returns-in_err-extend_from_within-clause-err
returns-in_err-extend_from_within-clause-err c =
    anyhow c.from_residual.result (with_same c.args.buffers.now.items c.args.text.buffer c.index_mut.result.now c.extend_from_within.new.self (omega (arith, c.args.buffers.now.ok)) c.index_mut.ensures.value c.in_err-extend_from_within.ensures.items)

pub returns-clause-ok : goal.returns-clause-ok
unfolding text_in
returns-clause-ok c =
    let old = c.index_mut.result.now.items in
    let start = c.args.text.start in
    let count = c.args.text.length in
    let whole = slice_index_or (contents c.args.buffers.now.items) c.args.text.buffer [] in
    let within : c.args.text.buffer < length c.args.buffers.now.items = omega (arith, c.args.buffers.now.ok) in
    let there = stands_at c.args.buffers.now.items c.args.text.buffer c.index_mut.result.now within c.index_mut.ensures.value in
    let put : c.extend_from_within.new.self.items ≡ old ++ take count (drop start whole) =
    c.in_ok-extend_from_within.ensures.items ∙ ap (λ (part : List ℕ). old ++ part) (part_range start count old) ∙ ap (λ (buffer : List ℕ). old ++ take count (drop start buffer)) (sym there) in
    with_more c.args.buffers.now.items c.args.text.buffer c.index_mut.result.now c.extend_from_within.new.self (take count (drop start whole)) within c.index_mut.ensures.value put
