use Rattle.std.proofs.Common.{length}
use Rattle.snap_graph.proofs.Mirrors.{matches_self, mirror}
use Rattle.snap_graph.proofs.laws.heaps_match_themselves.Goals as goal

pub returns : goal.returns
returns c = λ nodes roots lawful within. (mirror (length nodes), matches_self nodes lawful roots within)
