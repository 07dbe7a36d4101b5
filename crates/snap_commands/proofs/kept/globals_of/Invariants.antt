use Rattle.std.proofs.Common.{◌≡◌}
use Rattle.std.specs.Prelude.{take}
use Rattle.snap_commands.specs.Globals.{entries_of}
use Rattle.snap_commands.specs.Kept.{kept_globals}
use Rattle.snap_commands.proofs.kept.globals_of.Given as goal

abbrev pub invariant-loop-kept : goal.invariant-loop-kept
invariant-loop-kept l = entries_of l.globals.entries ≡ kept_globals (take l.kept-index l.loaded.globals.items)
