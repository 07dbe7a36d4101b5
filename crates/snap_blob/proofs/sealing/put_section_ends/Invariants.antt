use Rattle.std.proofs.Common.{◌≡◌, ◌+◌, ◌++◌, length, take}
use Rattle.std.specs.List.{flat_map}
use Rattle.spec_format.specs.Container.{end_entry}
use Rattle.spec_format.specs.Number.{ends_from, spelled32}
use Rattle.spec_format.proofs.Pieces.{before}
use Rattle.snap_blob.specs.Sections.{lists_of}
use Rattle.snap_blob.proofs.sealing.put_section_ends.Given as goal

abbrev pub invariant-loop-section : goal.invariant-loop-section
invariant-loop-section l =
    record {
      end_is : l.end ≡ end_entry (length l.sections) + before l.section-index (lists_of l.sections);
      written : l.blob.items ≡ l.fn.blob.items ++ flat_map spelled32 (take l.section-index (ends_from (end_entry (length l.sections)) (lists_of l.sections)));
    }
