use Rattle.spec_grammar.proofs.Sources.{one_tree}
use Rattle.spec_grammar.proofs.laws.one_tree.Goals as goal

pub returns : goal.returns
returns c = one_tree
