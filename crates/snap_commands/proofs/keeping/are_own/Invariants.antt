use Rattle.std.proofs.Common.{◌≡◌, map}
use Rattle.std.specs.Prelude.{take}
use Rattle.snap_commands.specs.Globals.{own_of}
use Rattle.snap_commands.proofs.keeping.are_own.Given as goal

abbrev pub invariant-loop-index : goal.invariant-loop-index
invariant-loop-index l = take l.index l.properties ≡ map own_of (take l.index l.table)
