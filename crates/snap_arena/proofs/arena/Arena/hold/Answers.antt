use Rattle.snap_arena.proofs.Growing.{grown_anyhow}
use Rattle.snap_arena.proofs.arena.Arena.hold.Goals as goal

pub returns-clause-grows : goal.returns-clause-grows
returns-clause-grows c = grown_anyhow c.args.self.now c.args.units.now c.hold_units.new.self c.hold_units.result c.hold_units.ensures.ok c.hold_units.ensures.err
