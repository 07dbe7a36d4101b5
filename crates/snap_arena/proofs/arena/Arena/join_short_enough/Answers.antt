use Rattle.std.proofs.Common.{arith}
use Rattle.snap_arena.proofs.Growing.{added_left, added_right}
use Rattle.snap_arena.proofs.arena.Arena.join_short_enough.Goals as goal

pub returns-then-left-eq0-clause-ok : goal.returns-then-left-eq0-clause-ok
returns-then-left-eq0-clause-ok c = added_right c.args.self.now c.args.left c.args.right (omega arith) c.requires.right

pub returns-then-right-eq0-clause-ok : goal.returns-then-right-eq0-clause-ok
returns-then-right-eq0-clause-ok c = added_left c.args.self.now c.args.left c.args.right (omega arith) c.requires.left
