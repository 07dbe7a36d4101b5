use Rattle.apply_rows.proofs.tests.texts.speed.grown.Given as goal

-- the text and the unit are the store's own
abbrev pub invariant-loop-turn : goal.invariant-loop-turn
invariant-loop-turn g l = g.S.Store.owns l.store l.text × g.S.Store.owns l.store l.unit
