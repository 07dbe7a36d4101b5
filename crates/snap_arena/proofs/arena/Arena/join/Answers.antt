use Rattle.std.proofs.Common.{arith}
use Rattle.snap_arena.specs.Laws.{extends_itself}
use Rattle.snap_arena.proofs.Growing.{grown_anyhow, held_length}
use Rattle.std.proofs.lemmas.Bool.{le-ltb, lt-ltb}
use Rattle.snap_arena.proofs.arena.Arena.join.Goals as goal

pub returns-then-from-clause-fault : goal.returns-then-from-clause-fault
returns-then-from-clause-fault c = lt-ltb _ _ (omega (arith, held_length c.args.self.now c.args.left c.requires.left, held_length c.args.self.now c.args.right c.requires.right))

pub returns-then-from-clause-grows : goal.returns-then-from-clause-grows
returns-then-from-clause-grows c = extends_itself c.args.self.now

pub returns-in_err-held-clause-grows : goal.returns-in_err-held-clause-grows
returns-in_err-held-clause-grows c = grown_anyhow c.args.self.now _ c.join_short_enough.new.self c.join_short_enough.result c.join_short_enough.ensures.ok c.join_short_enough.ensures.err

pub returns-clause-fault : goal.returns-clause-fault
returns-clause-fault c = le-ltb _ _ (omega (arith, held_length c.args.self.now c.args.left c.requires.left, held_length c.args.self.now c.args.right c.requires.right))
