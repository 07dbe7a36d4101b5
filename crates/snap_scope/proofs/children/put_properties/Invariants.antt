use Rattle.std.proofs.Common.{◌≡◌, ◌++◌, drop}
use Rattle.snap_ast.specs.Children.{property_children}
use Rattle.snap_scope.specs.Children.{numbers_of}
use Rattle.snap_scope.proofs.children.put_properties.Given as goal

-- what is added so far, with what is left to add, is all
abbrev pub invariant-loop-property : goal.invariant-loop-property
invariant-loop-property l = l.out.items ++ numbers_of (property_children (drop l.property-index l.properties)) ≡ l.initial.out.items ++ numbers_of (property_children l.properties)
