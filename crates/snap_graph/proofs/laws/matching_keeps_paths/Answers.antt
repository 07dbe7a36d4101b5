use Rattle.snap_graph.proofs.Following.{paths_agree}
use Rattle.snap_graph.proofs.laws.matching_keeps_paths.Goals as goal

pub returns : goal.returns
returns c = λ nodes others roots other_roots pairs path value matches leads. paths_agree pairs nodes others matches.pairs_agree roots other_roots path value matches.roots_agree leads
