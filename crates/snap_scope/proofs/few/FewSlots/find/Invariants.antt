use Rattle.snap_scope.proofs.Fews.{NotBefore}
use Rattle.snap_scope.proofs.few.FewSlots.find.Given as goal

-- no name so far is this one
abbrev pub invariant-loop-slot : goal.invariant-loop-slot
invariant-loop-slot l = NotBefore l.self l.name l.slot
