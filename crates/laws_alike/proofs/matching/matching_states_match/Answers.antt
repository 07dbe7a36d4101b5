use Rattle.laws_alike.proofs.Graphs.{alike_from, matches_from}
use Rattle.laws_alike.proofs.matching.matching_states_match.Goals as goal

pub returns : goal.returns
returns c = record { alike = alike_from; matches = matches_from }
