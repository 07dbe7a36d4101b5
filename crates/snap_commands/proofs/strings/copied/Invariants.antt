use Rattle.std.proofs.Common.{◌≡◌, ◌++◌, All}
use Rattle.spec_format.specs.Number.{AreBytes}
use Rattle.snap_commands.specs.Globals.{spelled}
use Rattle.snap_commands.proofs.strings.copied.Given as goal

abbrev pub invariant-loop-string : goal.invariant-loop-string
invariant-loop-string l = record {
  same : l.list.items ++ spelled l.string-iterator ≡ spelled l.set.keys;
  bytes : All AreBytes l.list.items;
}
