use Rattle.std.proofs.Common.{◌≡◌, ℕ, ◌<◌, ◌^◌, List, ◌++◌, length, drop}
use Rattle.std.specs.Prelude.{map}
use Rattle.std.specs.List.{flat_map}
use Rattle.spec_format.specs.Startup.{AreShort, counted, pair_bytes}
use Rattle.spec_format.specs.Varint.{varint}
use Rattle.snap_blob.specs.Steps.{pair_of}
use Rattle.snap_blob.proofs.startup_reader.read_shapes.Given as goal

abbrev pub invariant-loop-index : goal.invariant-loop-index
invariant-loop-index l =
    record {
      many : length l.shapes.items ≡ l._index;
      read : l.fn.cursor.left ≡ varint l.count ++ (flat_map pair_bytes (map pair_of l.shapes.items) ++ l.cursor.left);
      only : (shapes : List (ℕ × ℕ)) (rest : List ℕ) → AreShort shapes → length shapes < 2 ^ 64
          → l.fn.cursor.left ≡ counted pair_bytes shapes ++ rest
          → (l.count ≡ length shapes) × (l.cursor.left ≡ flat_map pair_bytes (drop l._index shapes) ++ rest);
    }
