use Rattle.std.proofs.Common.{◌≤◌}
use Rattle.std.specs.Prelude.{take}
use Rattle.snap_commands.specs.Globals.{spelled}
use Rattle.snap_commands.specs.Strings.{AreOf, mass}
use Rattle.snap_commands.proofs.strings.strings.Given as goal

abbrev pub invariant-loop-text : goal.invariant-loop-text
invariant-loop-text l = record {
  same : AreOf (spelled l.set.keys) (spelled (take l.text-index l.texts));
  light : mass (spelled l.set.keys) ≤ mass (spelled (take l.text-index l.texts));
}
