use Rattle.std.proofs.Common.{◌≡◌, ◌++◌, length, take}
use Rattle.std.specs.Prelude.{map}
use Rattle.std.specs.List.{flat_map}
use Rattle.spec_format.specs.Startup.{pair_bytes}
use Rattle.spec_format.specs.Varint.{varint}
use Rattle.snap_blob.specs.Steps.{pair_of}
use Rattle.snap_blob.proofs.startups.put_shapes.Given as goal

abbrev pub invariant-loop-shape : goal.invariant-loop-shape
invariant-loop-shape l =
    l.section.items ≡ l.fn.section.items ++ (varint (length (map pair_of l.shapes)) ++ flat_map pair_bytes (map pair_of (take l.shape-index l.shapes)))
