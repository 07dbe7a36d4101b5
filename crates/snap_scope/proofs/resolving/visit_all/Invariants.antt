use Rattle.snap_scope.proofs.resolving.visit_all.Given as goal
use Rattle.snap_scope.specs.Visit.{Visited}

abbrev pub invariant-loop-number : goal.invariant-loop-number
invariant-loop-number l = Visited l.tree l.pass.chains l.pass.contexts.items l.pass.entries.items l.pass.places.items l.number
