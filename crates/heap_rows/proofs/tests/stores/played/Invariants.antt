use Rattle.std.proofs.Common.{◌≡◌, length}
use Rattle.heap_rows.proofs.tests.stores.played.Given as goal

-- there are as many nodes as before
abbrev pub invariant-loop-place : goal.invariant-loop-place
invariant-loop-place g l = length (g.S.Store.view l.store).nodes ≡ length (g.S.Store.view l.initial.store).nodes
