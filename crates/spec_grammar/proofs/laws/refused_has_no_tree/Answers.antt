use Rattle.spec_grammar.proofs.Sources.{refused_has_none}
use Rattle.spec_grammar.specs.Source.{NoTree}
use Rattle.spec_grammar.proofs.laws.refused_has_no_tree.Goals as goal

pub returns : goal.returns
returns c = λ source cause at tree. refused_has_none source (NoTree cause at) tree
