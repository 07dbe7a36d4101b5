use Rattle.std.proofs.Common.{◌≡◌, ◌<◌, ◌≤◌, ◌+◌, ◌++◌, length, ap, ◌∙◌, arith}
use Rattle.std.specs.List.{flat_map}
use Rattle.spec_format.specs.Container.{end_entry}
use Rattle.spec_format.specs.Number.{spelled32}
use Rattle.spec_format.proofs.Pieces.{before}
use Rattle.snap_blob.specs.Sections.{lists_of}
use Rattle.snap_blob.proofs.Pieces.{before_more, before_more-le, ends_more, ends_all}
use Rattle.snap_blob.proofs.Sealed.{item_of, length-lists_of}
use Rattle.snap_blob.proofs.sealing.put_section_ends.Goals as goal

pub overflow_add-end-in-loop-section : goal.overflow_add-end-in-loop-section
overflow_add-end-in-loop-section c =
    let sections = c.args.sections.now in
    let i = c.loop-section.section-index in
    let count = length-lists_of sections in
    let item = item_of sections i c.section-item.result c.loop-section-test.true c.section-item.is in
    let inside : i < length (lists_of sections) = omega (arith, count) in
    let fits = before_more-le (lists_of sections) i (length c.section-item.result.items) inside (rw item) in
    omega (arith, fits, count)

pub overflow_cast-end : goal.overflow_cast-end
overflow_cast-end c =
    let sections = c.args.sections.now in
    let i = c.loop-section.section-index in
    let count = length-lists_of sections in
    let item = item_of sections i c.section-item.result c.loop-section-test.true c.section-item.is in
    let inside : i < length (lists_of sections) = omega (arith, count) in
    let fits = before_more-le (lists_of sections) i (length c.section-item.result.items) inside (rw item) in
    omega (arith, fits, count)

pub loop-section-preserved : goal.loop-section-preserved
loop-section-preserved c =
    let sections = c.args.sections.now in
    let i = c.loop-section.section-index in
    let start = end_entry (length sections) in
    let count = length-lists_of sections in
    let item = item_of sections i c.section-item.result c.loop-section-test.true c.section-item.is in
    let inside : i < length (lists_of sections) = omega (arith, count) in
    let more = before_more (lists_of sections) i (length c.section-item.result.items) inside (rw item) in
    let end : c.loop-section.end + c.len-end.result ≡ start + before (i + 1) (lists_of sections) = omega (arith, more) in
    record {
      end_is = end;
      written = ends_more c.args.blob.now.items c.loop-section.blob.items _ start (lists_of sections) i _ inside end c.loop-section.invariant.written c.in_ok-put32.ensures;
    }

pub returns : goal.returns
returns c =
    let sections = c.args.sections.now in
    let count = length-lists_of sections in
    let done : length (lists_of sections) ≤ c.loop-section.section-index = omega (arith, count) in
    c.loop-section.invariant.written
    ∙ ap (λ w. c.args.blob.now.items ++ flat_map spelled32 w) (ends_all (end_entry (length sections)) (lists_of sections) _ done)
