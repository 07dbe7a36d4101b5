use Rattle.std.proofs.Common.{◌≡◌, ◌++◌, drop}
use Rattle.snap_scope.specs.Names.{all_declared}
use Rattle.spec_scopes.specs.Names.{declared}
use Rattle.snap_scope.proofs.names.put_body.Given as goal

-- what is added so far, with what is left to add, is all
abbrev pub invariant-loop-number : goal.invariant-loop-number
invariant-loop-number l = all_declared l.out.items ++ declared l.nodes (drop l.number-index l.body) ≡ all_declared l.initial.out.items ++ declared l.nodes l.body
