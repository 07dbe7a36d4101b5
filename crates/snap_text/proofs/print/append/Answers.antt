use Rattle.std.proofs.Common.{◌<◌, ◌≤◌, ◌++◌, ◌∙◌, length, drop, vec_len, encode_utf8, append_assoc, sym, ap, arith, length-take, length-drop}
use Rattle.std.proofs.lemmas.List.{append-nil, drop_all, drop-drop, take-append-le}
use Rattle.snap_text.specs.Utf8.{first_character, first_width, utf8_of}
use Rattle.snap_text.proofs.Characters.{first_width_within, utf8_of_first}
use Rattle.snap_text.proofs.print.append.Goals as goal

pub loop-at-preserved : goal.loop-at-preserved
loop-at-preserved c =
    let units = c.args.units.now in
    let text = drop c.loop-at.at units in
    let more : 0 < length text = omega (arith, length-drop c.loop-at.at units) in
    let room : vec_len c.args.out.now ≤ length c.loop-at.out.items = omega (arith, ap length c.loop-at.invariant.kept, length-take (vec_len c.args.out.now) c.loop-at.out.items, c.args.out.now.ok) in
    record {
      whole = rw (c.in_ok-at.ensures.bytes, c.in_ok-at.ensures.width, append_assoc, ← drop-drop (first_width text) c.loop-at.at units, ← utf8_of_first text more) c.loop-at.invariant.whole;
      kept = rw c.in_ok-at.ensures.bytes (take-append-le (vec_len c.args.out.now) c.loop-at.out.items (encode_utf8 (first_character text)) room ∙ c.loop-at.invariant.kept);
      within = omega (arith, first_width_within text more, length-drop c.loop-at.at units, c.in_ok-at.ensures.width);
    }

pub returns-clause-ok : goal.returns-clause-ok
unfolding utf8_of
returns-clause-ok c =
    sym (append-nil c.loop-at.out.items) ∙ ap (λ rest. c.loop-at.out.items ++ utf8_of rest) (sym (drop_all c.loop-at.at c.args.units.now (omega arith))) ∙ c.loop-at.invariant.whole
