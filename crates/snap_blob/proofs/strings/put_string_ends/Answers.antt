use Rattle.std.proofs.Common.{◌≡◌, ◌+◌, ◌++◌, [], length, get_or, ap, sym, ◌∙◌, arith}
use Rattle.std.specs.List.{flat_map}
use Rattle.spec_format.specs.Number.{spelled32}
use Rattle.spec_format.proofs.Pieces.{before}
use Rattle.std.proofs.lemmas.List.{get_or_read}
use Rattle.snap_blob.proofs.Pieces.{before_more, before_more-le, ends_more, ends_all}
use Rattle.snap_blob.proofs.strings.put_string_ends.Goals as goal

pub overflow_add-end : goal.overflow_add-end
overflow_add-end c =
    let strings = c.args.strings.now in
    let i = c.loop-string.string-index in
    let item = get_or_read strings i c.string-item.result c.loop-string-test.true c.string-item.is [] in
    let units : c.units.result.now ≡ get_or strings i [] = c.units.ensures ∙ item in
    let fits = before_more-le strings i (length c.units.result.now) c.loop-string-test.true (ap length (sym units)) in
    omega (arith, fits)

pub loop-string-preserved : goal.loop-string-preserved
loop-string-preserved c =
    let strings = c.args.strings.now in
    let i = c.loop-string.string-index in
    let item = get_or_read strings i c.string-item.result c.loop-string-test.true c.string-item.is [] in
    let units : c.units.result.now ≡ get_or strings i [] = c.units.ensures ∙ item in
    let more = before_more strings i (length c.units.result.now) c.loop-string-test.true (ap length (sym units)) in
    let end : c.loop-string.end + length c.units.result.now ≡ before (i + 1) strings = omega (arith, more) in
    record {
      end_is = end;
      written = ends_more c.args.section.now.items c.loop-string.section.items _ 0 strings i _ c.loop-string-test.true (omega arith) c.loop-string.invariant.written c.in_ok-put32.ensures;
    }

pub returns : goal.returns
returns c =
    c.loop-string.invariant.written
    ∙ ap (λ w. c.args.section.now.items ++ flat_map spelled32 w) (ends_all 0 c.args.strings.now _ c.loop-string-test.false)
