use Rattle.std.proofs.Common.{◌≡◌, ◌++◌, take}
use Rattle.std.specs.List.{flat_map}
use Rattle.spec_format.specs.Number.{ends_from, spelled32}
use Rattle.spec_format.proofs.Pieces.{before}
use Rattle.snap_blob.proofs.strings.put_string_ends.Given as goal

abbrev pub invariant-loop-string : goal.invariant-loop-string
invariant-loop-string l =
    record {
      end_is : l.end ≡ before l.string-index l.strings;
      written : l.section.items ≡ l.fn.section.items ++ flat_map spelled32 (take l.string-index (ends_from 0 l.strings));
    }
