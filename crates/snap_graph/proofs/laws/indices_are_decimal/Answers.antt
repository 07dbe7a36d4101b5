use Rattle.snap_graph.proofs.Indices.{index_text, text_index}
use Rattle.snap_graph.proofs.laws.indices_are_decimal.Goals as goal

pub returns : goal.returns
returns c = record { only = index_text; each = text_index }
