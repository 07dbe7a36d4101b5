use Rattle.std.proofs.Common.{arith}
use Rattle.snap_arena.specs.Texts.{AreSmall}
use Rattle.snap_arena.proofs.arena.Arena.new.Goals as goal

pub invariant_of-result : goal.invariant_of-result
unfolding AreSmall
invariant_of-result c = rw c.new.ensures.items (λ _. omega arith)
