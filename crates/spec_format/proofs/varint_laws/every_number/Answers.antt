use Rattle.std.proofs.Common.{arith}
use Rattle.spec_format.proofs.Spellings.{spelled_below}
use Rattle.spec_format.proofs.varint_laws.every_number.Goals as goal

pub returns : goal.returns
returns c = λ n. spelled_below n n (omega arith)
