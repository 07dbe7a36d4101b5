use Rattle.snap_commands.proofs.OneCommand.{one_answer_lem}
use Rattle.snap_commands.proofs.serial.one_answer.Goals as goal

pub returns : goal.returns
returns c = one_answer_lem
