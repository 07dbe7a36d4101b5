use Rattle.spec_tokens.proofs.Lacking.{fault_is_cut}
use Rattle.spec_tokens.proofs.laws.read_are_faults.Goals as goal

pub returns : goal.returns
returns c = fault_is_cut
