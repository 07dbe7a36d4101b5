use Rattle.std.proofs.Common.{◌≡◌, ◌++◌, drop}
use Rattle.snap_scope.specs.Names.{all_declared}
use Rattle.spec_scopes.specs.Names.{let_names}
use Rattle.snap_scope.proofs.names.put_lets.Given as goal

-- what is added so far, with what is left to add, is all
abbrev pub invariant-loop-binding : goal.invariant-loop-binding
invariant-loop-binding l = all_declared l.out.items ++ let_names (drop l.binding-index l.bindings) ≡ all_declared l.initial.out.items ++ let_names l.bindings
