use Rattle.std.proofs.Common.{◌≡◌, ◌++◌, map}
use Rattle.std.specs.Prelude.{take}
use Rattle.snap_commands.specs.Globals.{entries_of}
use Rattle.snap_commands.specs.Properties.{property_of}
use Rattle.snap_commands.proofs.properties.put_globals.Given as goal

abbrev pub invariant-loop-index : goal.invariant-loop-index
invariant-loop-index l = l.list.items ≡ l.fn.list.items ++ map property_of (entries_of (take l.index l.globals.entries))
