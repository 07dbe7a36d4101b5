use Rattle.std.proofs.Common.{◌≡◌, ◌++◌, map}
use Rattle.std.specs.Prelude.{take}
use Rattle.snap_commands.specs.Globals.{entries_of, spelled}
use Rattle.snap_commands.specs.Properties.{property_of, texts_of}
use Rattle.snap_commands.proofs.texts.put_globals.Given as goal

abbrev pub invariant-loop-index : goal.invariant-loop-index
invariant-loop-index l = spelled l.list.items ≡ spelled l.fn.list.items ++ texts_of (map property_of (entries_of (take l.index l.globals.entries)))
