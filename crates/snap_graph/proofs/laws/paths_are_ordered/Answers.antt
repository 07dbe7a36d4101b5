use Rattle.snap_graph.specs.Paths.{IsPathTo}
use Rattle.snap_graph.proofs.LeastPaths.{one_least, one_path, paths_total}
use Rattle.snap_graph.proofs.laws.paths_are_ordered.Goals as goal

pub returns : goal.returns
returns c = record { total = paths_total; exact = one_path; least = λ nodes roots number. one_least (IsPathTo nodes roots number) }
