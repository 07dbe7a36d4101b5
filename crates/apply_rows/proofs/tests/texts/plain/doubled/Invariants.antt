use Rattle.apply_rows.proofs.tests.texts.plain.doubled.Given as goal

-- the text is the store's own
abbrev pub invariant-loop-turn : goal.invariant-loop-turn
invariant-loop-turn g l = g.S.Store.owns l.store l.text
