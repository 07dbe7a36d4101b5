use Rattle.std.proofs.Common.{◌<◌, ◌++◌, length, ap, ◌∙◌, arith}
use Rattle.snap_blob.specs.Sections.{lists_of}
use Rattle.snap_blob.proofs.Pieces.{pieces_more}
use Rattle.snap_blob.proofs.Sealed.{item_of, length-lists_of}
use Rattle.snap_blob.proofs.sealing.put_sections.Goals as goal

pub loop-section-preserved : goal.loop-section-preserved
loop-section-preserved c =
    let sections = c.args.sections.now in
    let i = c.loop-section.section-index in
    let count = length-lists_of sections in
    let item = item_of sections i c.section-item.result c.loop-section-test.true c.section-item.is in
    let inside : i < length (lists_of sections) = omega (arith, count) in
    pieces_more c.args.blob.now.items c.loop-section.blob.items _ (lists_of sections) i c.section-item.result.items inside item c.loop-section.invariant
    (c.in_ok-extend_from_slice.ensures.items ∙ ap (λ w. c.loop-section.blob.items ++ w) c.as_slice.ensures.value)
