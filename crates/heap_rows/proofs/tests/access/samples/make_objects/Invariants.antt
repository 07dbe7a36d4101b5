use Rattle.std.proofs.Common.{◌<◌, length}
use Rattle.heap_rows.proofs.tests.access.samples.make_objects.Given as goal

-- the last number is that of a node
abbrev pub invariant-loop-row : goal.invariant-loop-row
invariant-loop-row g l = l.last < length (g.S.Store.view l.store).nodes
