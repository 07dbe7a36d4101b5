use Rattle.std.proofs.Common.{◌≡◌, map}
use Rattle.std.specs.List.{range_with_len}
use Rattle.spec_format.specs.Strings.{string}
use Rattle.snap_blob.specs.RoStrings.{section_of}
use Rattle.snap_commands.proofs.parts.strings_in.Given as goal

abbrev pub invariant-loop-i : goal.invariant-loop-i
invariant-loop-i l = l.list.items ≡ map (string (section_of l.strings)) (range_with_len 0 l.i)
