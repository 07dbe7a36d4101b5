use Rattle.std.proofs.Common.{◌≡◌, ◌++◌, ◌≤◌, drop, length, map}
use Rattle.snap_base.specs.declared.limits.TheConstants.{MOST_ITEMS}
use Rattle.snap_commands.specs.Globals.{entries_of}
use Rattle.snap_commands.specs.Thin.{leaves, prints, thin_of}
use Rattle.snap_commands.proofs.evaluate.evaluate.Given as goal

-- what is printed so far and what the rest prints is what all prints
abbrev pub invariant-loop-statement : goal.invariant-loop-statement
invariant-loop-statement l = record {
  printed : l.printed.items ++ prints (map thin_of (drop l.statement-index l.statements)) (entries_of l.globals.entries) ≡ l.fn.printed.items ++ prints (map thin_of l.statements) (entries_of l.fn.globals.entries);
  left : leaves (map thin_of (drop l.statement-index l.statements)) (entries_of l.globals.entries) ≡ leaves (map thin_of l.statements) (entries_of l.fn.globals.entries);
  fits : length l.printed.items ≤ MOST_ITEMS;
}
