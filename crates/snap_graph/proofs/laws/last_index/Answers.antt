use Rattle.std.proofs.Common.{refl}
use Rattle.std.specs.Fmt.{digits}
use Rattle.snap_graph.proofs.laws.last_index.Goals as goal

pub returns : goal.returns
unfolding digits
returns c = record { last = refl; past = refl; spelled = refl; none = refl }
