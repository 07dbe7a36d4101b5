use Rattle.std.proofs.Common.{◌≡◌, ◌++◌, take}
use Rattle.std.specs.List.{concat}
use Rattle.snap_blob.proofs.strings.put_all.Given as goal

abbrev pub invariant-loop-string : goal.invariant-loop-string
invariant-loop-string l = l.section.items ≡ l.fn.section.items ++ concat (take l.string-index l.strings)
