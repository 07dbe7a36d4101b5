use Rattle.std.proofs.Common.{map}
use Rattle.snap_blob.specs.Steps.{pair_of}
use Rattle.snap_commands.proofs.Standing.{all_none, all_stand}
use Rattle.snap_commands.proofs.load.read_context.Goals as goal

pub returns-clause-stand : goal.returns-clause-stand
returns-clause-stand c = all_stand c.args.strings.now (map pair_of c.args.shapes.now) c.args.context.now c.read_global.result c.requires.lawful.bytes c.read_global.ensures.some

pub returns-clause-none : goal.returns-clause-none
returns-clause-none c = all_none c.args.strings.now (map pair_of c.args.shapes.now) c.args.context.now c.read_global.result c.read_global.ensures.none
