use Rattle.std.proofs.Common.{◌≡◌, ◌++◌, map, drop}
use Rattle.snap_scope.specs.Names.{all_declared}
use Rattle.spec_scopes.specs.Names.{constant}
use Rattle.snap_scope.proofs.names.put_constants.Given as goal

-- what is added so far, with what is left to add, is all
abbrev pub invariant-loop-named : goal.invariant-loop-named
invariant-loop-named l = all_declared l.out.items ++ map constant (drop l.named-index l.names) ≡ all_declared l.initial.out.items ++ map constant l.names
