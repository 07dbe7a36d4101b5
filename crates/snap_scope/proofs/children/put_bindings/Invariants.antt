use Rattle.std.proofs.Common.{◌≡◌, ◌++◌, drop}
use Rattle.snap_ast.specs.Children.{binding_children}
use Rattle.snap_scope.specs.Children.{numbers_of}
use Rattle.snap_scope.proofs.children.put_bindings.Given as goal

-- what is added so far, with what is left to add, is all
abbrev pub invariant-loop-binding : goal.invariant-loop-binding
invariant-loop-binding l = l.out.items ++ numbers_of (binding_children (drop l.binding-index l.bindings)) ≡ l.initial.out.items ++ numbers_of (binding_children l.bindings)
