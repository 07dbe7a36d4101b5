use Rattle.snap_commands.proofs.Causes.{unbuilt_tree}
use Rattle.snap_commands.proofs.judge.unbuilt_has_a_right_tree.Goals as goal

pub returns : goal.returns
returns c = unbuilt_tree
