use Rattle.std.proofs.Common.{◌≡◌, ◌++◌, map}
use Rattle.std.specs.Prelude.{take}
use Rattle.snap_commands.specs.Globals.{own_of}
use Rattle.snap_commands.proofs.properties.put_own.Given as goal

abbrev pub invariant-loop-name : goal.invariant-loop-name
invariant-loop-name l = l.list.items ≡ l.fn.list.items ++ map own_of (take l.name-index l.own)
