use Rattle.spec_tokens.proofs.Sound.{list_is_cut}
use Rattle.spec_tokens.proofs.laws.read_are_tokens.Goals as goal

pub returns : goal.returns
returns c = list_is_cut
