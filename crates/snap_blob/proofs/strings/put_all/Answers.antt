use Rattle.std.proofs.Common.{◌≡◌, [], get_or, sym, ◌∙◌}
use Rattle.std.proofs.lemmas.List.{get_or_read}
use Rattle.snap_blob.proofs.Pieces.{pieces_more}
use Rattle.snap_blob.proofs.strings.put_all.Goals as goal

pub loop-string-preserved : goal.loop-string-preserved
loop-string-preserved c =
    let strings = c.args.strings.now in
    let i = c.loop-string.string-index in
    let item = get_or_read strings i c.string-item.result c.loop-string-test.true c.string-item.is [] in
    let units : c.units.result.now ≡ get_or strings i [] = c.units.ensures ∙ item in
    pieces_more c.args.section.now.items c.loop-string.section.items _ strings i c.units.result.now c.loop-string-test.true (sym units) c.loop-string.invariant c.in_ok-put_string.ensures
