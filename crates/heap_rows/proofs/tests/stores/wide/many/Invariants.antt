use Rattle.std.proofs.Common.{◌≡◌}
use Rattle.heap_rows.specs.Wide.{many}
use Rattle.heap_rows.proofs.tests.stores.wide.many.Given as goal

abbrev pub invariant-loop-n : goal.invariant-loop-n
invariant-loop-n l = l.properties.items ≡ many l.n
