use Rattle.std.proofs.Common.{◌≡◌, ◌+◌, ◌≤◌, length}
use Rattle.snap_base.specs.declared.limits.TheConstants.{MOST_BLOB_BYTES}
use Rattle.spec_format.specs.Container.{end_entry}
use Rattle.spec_format.proofs.Pieces.{before}
use Rattle.snap_blob.specs.Sections.{lists_of}
use Rattle.snap_blob.proofs.sealing.blob_length.Given as goal

abbrev pub invariant-loop-section : goal.invariant-loop-section
invariant-loop-section l =
    (l.total ≡ end_entry (length l.sections) + before l.section-index (lists_of l.sections)) × (l.total ≤ MOST_BLOB_BYTES)
