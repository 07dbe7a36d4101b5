use Rattle.spec_grammar.proofs.LawfulTrees.{tree_lawful}
use Rattle.spec_grammar.proofs.laws.trees_are_lawful.Goals as goal

pub returns : goal.returns
returns c = tree_lawful
