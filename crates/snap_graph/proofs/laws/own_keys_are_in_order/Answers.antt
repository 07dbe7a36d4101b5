use Rattle.snap_graph.proofs.Ranks.{ascending, stable}
use Rattle.snap_graph.proofs.laws.own_keys_are_in_order.Goals as goal

pub returns : goal.returns
returns c = record { ascending = ascending; stable = stable }
