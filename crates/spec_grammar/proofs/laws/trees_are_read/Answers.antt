use Rattle.spec_grammar.proofs.Sources.{tree_is_read}
use Rattle.spec_grammar.proofs.laws.trees_are_read.Goals as goal

pub returns : goal.returns
returns c = tree_is_read
