use Rattle.std.proofs.Common.{◌≡◌, ◌++◌, map, drop}
use Rattle.snap_scope.specs.Names.{all_declared}
use Rattle.spec_scopes.specs.Names.{variable}
use Rattle.snap_scope.proofs.names.put_variables.Given as goal

-- what is added so far, with what is left to add, is all
abbrev pub invariant-loop-named : goal.invariant-loop-named
invariant-loop-named l = all_declared l.out.items ++ map variable (drop l.named-index l.names) ≡ all_declared l.initial.out.items ++ map variable l.names
