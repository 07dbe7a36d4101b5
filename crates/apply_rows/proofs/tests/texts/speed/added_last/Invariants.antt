use Rattle.std.proofs.Common.{◌≡◌}
use Rattle.apply_rows.proofs.tests.texts.speed.added_last.Given as goal

-- the store has come of what it was by calls that changed nothing that it stands for
abbrev pub invariant-loop-turn : goal.invariant-loop-turn
invariant-loop-turn g l = g.S.Store.later l.initial.store l.store × (g.S.Store.view l.store ≡ g.S.Store.view l.initial.store)
