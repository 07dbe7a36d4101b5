use Rattle.std.proofs.Common.{ap}
use Rattle.std.specs.Option.{option_map}
use Rattle.snap_commands.specs.Views.{job_view}
use Rattle.snap_commands.proofs.Builds.{comes_as}
use Rattle.snap_commands.proofs.serial.answer_of.Goals as goal

pub returns-in-Some-clause-comes : goal.returns-in-Some-clause-comes
returns-in-Some-clause-comes g c = comes_as _ _ _ _ (ap (option_map job_view) c.in-Some.is) c.message_of.ensures
