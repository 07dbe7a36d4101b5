use Rattle.std.proofs.Common.{◌≡◌, ◌++◌}
use Rattle.std.specs.Prelude.{take}
use Rattle.snap_commands.specs.Globals.{names_of, spelled}
use Rattle.snap_commands.proofs.texts.put_own.Given as goal

abbrev pub invariant-loop-name : goal.invariant-loop-name
invariant-loop-name l = spelled l.list.items ≡ spelled l.fn.list.items ++ names_of (take l.name-index l.own)
