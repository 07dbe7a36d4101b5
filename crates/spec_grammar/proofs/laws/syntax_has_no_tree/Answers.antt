use Rattle.spec_grammar.proofs.Sources.{syntax_has_none}
use Rattle.spec_grammar.proofs.laws.syntax_has_no_tree.Goals as goal

pub returns : goal.returns
returns c = syntax_has_none
