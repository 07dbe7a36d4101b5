use Rattle.snap_action.specs.Names.{IsKnown}
use Rattle.heap_rows.proofs.tests.access.known.first_wrong.Given as goal

-- the base is the store's own, and the name keeps its key
abbrev pub invariant-loop-place : goal.invariant-loop-place
invariant-loop-place g l = g.S.Store.owns l.store l.base × IsKnown (g.S.Store.key_of l.store) l.name
