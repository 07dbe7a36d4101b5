use Rattle.spec_tokens.proofs.Units.{text_read}
use Rattle.spec_tokens.proofs.laws.one_unit_an_item.Goals as goal

pub returns : goal.returns
returns c = text_read
