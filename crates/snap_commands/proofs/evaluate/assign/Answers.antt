use Rattle.std.proofs.Common.{ap, ◌∙◌}
use Rattle.snap_commands.specs.Globals.{entries_of}
use Rattle.snap_commands.proofs.Entries.{entries_assigned}
use Rattle.snap_commands.proofs.evaluate.assign.Goals as goal

pub returns-in-Ok-clause-ok : goal.returns-in-Ok-clause-ok
returns-in-Ok-clause-ok c = ap entries_of c.in-Ok.ensures.entries ∙ entries_assigned c.args.globals.now.entries c.args.name c.args.value
