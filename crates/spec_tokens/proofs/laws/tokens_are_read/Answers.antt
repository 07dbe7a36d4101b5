use Rattle.spec_tokens.proofs.Reading.{list_is_read}
use Rattle.spec_tokens.proofs.laws.tokens_are_read.Goals as goal

pub returns : goal.returns
returns c = list_is_read
