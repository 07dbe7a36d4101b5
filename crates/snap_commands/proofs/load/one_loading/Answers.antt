use Rattle.snap_commands.proofs.OneLoading.{one_loading}
use Rattle.snap_commands.proofs.load.one_loading.Goals as goal

pub returns : goal.returns
returns c = one_loading
