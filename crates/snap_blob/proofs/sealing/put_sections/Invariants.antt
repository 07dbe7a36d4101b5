use Rattle.std.proofs.Common.{◌≡◌, ◌++◌, take}
use Rattle.std.specs.List.{concat}
use Rattle.snap_blob.specs.Sections.{lists_of}
use Rattle.snap_blob.proofs.sealing.put_sections.Given as goal

abbrev pub invariant-loop-section : goal.invariant-loop-section
invariant-loop-section l = l.blob.items ≡ l.fn.blob.items ++ concat (take l.section-index (lists_of l.sections))
