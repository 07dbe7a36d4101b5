use Rattle.snap_action.specs.Names.{IsKnown}
use Rattle.heap_rows.proofs.tests.access.known.sum.Given as goal

-- the base is the store's own, and the name keeps its key
abbrev pub invariant-loop-turn : goal.invariant-loop-turn
invariant-loop-turn g l = g.S.Store.owns l.store l.base × IsKnown (g.S.Store.key_of l.store) l.name
