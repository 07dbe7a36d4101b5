use Rattle.snap_graph.proofs.Turning.{matches_turned}
use Rattle.snap_graph.proofs.laws.matching_is_symmetric.Goals as goal

pub returns : goal.returns
returns c = matches_turned
