use Rattle.spec_format.proofs.Spellings.{same_spelling}
use Rattle.spec_format.proofs.varint_laws.one_varint.Goals as goal

pub returns : goal.returns
returns c = same_spelling
