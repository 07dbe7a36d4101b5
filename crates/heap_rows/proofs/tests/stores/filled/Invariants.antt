use Rattle.std.proofs.Common.{◌≡◌, length}
use Rattle.heap_rows.proofs.tests.stores.filled.Given as goal

-- there are as many nodes as before
abbrev pub invariant-loop-turn : goal.invariant-loop-turn
invariant-loop-turn g l = length (g.S.Store.view l.store).nodes ≡ length (g.S.Store.view l.initial.store).nodes
