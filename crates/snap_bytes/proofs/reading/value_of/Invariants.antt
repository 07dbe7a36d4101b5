use Rattle.std.proofs.Common.{drop}
use Rattle.spec_format.specs.Varint.{IsVarint}
use Rattle.snap_bytes.proofs.reading.value_of.Given as goal

-- what has been read spells the number so far
abbrev pub invariant-loop-i : goal.invariant-loop-i
invariant-loop-i l = IsVarint (drop l.i l.text) l.n
