use Rattle.spec_tokens.proofs.Faults.{fault_is_read}
use Rattle.spec_tokens.proofs.laws.faults_are_read.Goals as goal

pub returns : goal.returns
returns c = fault_is_read
