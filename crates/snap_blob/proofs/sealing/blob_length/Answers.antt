use Rattle.std.proofs.Common.{◌≡◌, ◌<◌, length, arith}
use Rattle.spec_format.proofs.Pieces.{before, before_all}
use Rattle.snap_blob.specs.Sections.{lists_of}
use Rattle.snap_blob.proofs.Pieces.{before_more, before_more-le}
use Rattle.snap_blob.proofs.Sealed.{item_of, length-lists_of}
use Rattle.snap_blob.proofs.sealing.blob_length.Goals as goal

pub returns-then-len-total-clause-err : goal.returns-then-len-total-clause-err
returns-then-len-total-clause-err c =
    let sections = c.args.sections.now in
    let i = c.loop-section.section-index in
    let count = length-lists_of sections in
    let item = item_of sections i c.section-item.result c.loop-section-test.true c.section-item.is in
    let inside : i < length (lists_of sections) = omega (arith, count) in
    let fits = before_more-le (lists_of sections) i (length c.section-item.result.items) inside (rw item) in
    omega (arith, fits, count)

pub loop-section-preserved : goal.loop-section-preserved
loop-section-preserved c =
    let sections = c.args.sections.now in
    let i = c.loop-section.section-index in
    let count = length-lists_of sections in
    let item = item_of sections i c.section-item.result c.loop-section-test.true c.section-item.is in
    let inside : i < length (lists_of sections) = omega (arith, count) in
    let more = before_more (lists_of sections) i (length c.section-item.result.items) inside (rw item) in
    (omega (arith, more), omega arith)

pub returns-clause-ok : goal.returns-clause-ok
returns-clause-ok c =
    let sections = c.args.sections.now in
    let count = length-lists_of sections in
    let i : c.loop-section.section-index ≡ length (lists_of sections) = omega (arith, count) in
    let all : before c.loop-section.section-index (lists_of sections) ≡ before (length (lists_of sections)) (lists_of sections) = rw i in
    (omega arith, omega (arith, count, all, before_all (lists_of sections)))
