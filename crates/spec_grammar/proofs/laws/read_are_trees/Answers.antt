use Rattle.spec_grammar.proofs.Sources.{read_is_tree}
use Rattle.spec_grammar.proofs.laws.read_are_trees.Goals as goal

pub returns : goal.returns
returns c = read_is_tree
