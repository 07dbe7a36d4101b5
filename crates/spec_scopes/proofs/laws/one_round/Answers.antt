use Rattle.spec_scopes.proofs.Rounds.{round_is}
use Rattle.spec_scopes.proofs.Standing.{one_round, some_round}
use Rattle.spec_scopes.proofs.laws.one_round.Goals as goal

pub returns-clause-some : goal.returns-clause-some
returns-clause-some c = some_round

pub returns-clause-one : goal.returns-clause-one
returns-clause-one c = one_round

pub returns-clause-computed : goal.returns-clause-computed
returns-clause-computed c = round_is
