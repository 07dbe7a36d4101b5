use Rattle.spec_grammar.proofs.Sources.{deep_is_nested}
use Rattle.spec_grammar.proofs.laws.deep_are_nested.Goals as goal

pub returns : goal.returns
returns c = deep_is_nested
