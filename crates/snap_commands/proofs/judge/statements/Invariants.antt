use Rattle.std.proofs.Common.{◌≡◌, ◌-◌, ◌≤◌, drop, length, map}
use Rattle.snap_lex.specs.View.{views}
use Rattle.snap_commands.specs.Thin.{thin_of}
use Rattle.snap_commands.specs.ThinSource.{thin_statements}
use Rattle.snap_commands.proofs.Statements.{with_front}
use Rattle.snap_commands.proofs.judge.statements.Given as goal

abbrev pub invariant-loop : goal.invariant-loop
invariant-loop l = record {
  read : with_front (map thin_of l.list.items) (thin_statements (length l.tokens - l.counter) (views (drop l.at l.tokens))) ≡ thin_statements (length l.tokens) (views l.tokens);
  within : l.at ≤ length l.tokens;
}
