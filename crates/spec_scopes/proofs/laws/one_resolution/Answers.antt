use Rattle.spec_scopes.proofs.Resolved.{one_resolution}
use Rattle.spec_scopes.proofs.laws.one_resolution.Goals as goal

pub returns : goal.returns
returns c = one_resolution
