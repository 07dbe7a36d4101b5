use Rattle.snap_action.specs.Names.{IsKnown}
use Rattle.apply_rows.proofs.tests.texts.speed.units_and_lengths.Given as goal

-- the text is the store's own, and the name keeps its key
abbrev pub invariant-loop-turn : goal.invariant-loop-turn
invariant-loop-turn g l = g.S.Store.owns l.store l.text × IsKnown (g.S.Store.key_of l.store) l.name
