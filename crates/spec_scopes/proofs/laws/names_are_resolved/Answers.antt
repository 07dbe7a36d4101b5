use Rattle.spec_scopes.proofs.Resolved.{names_counted, names_placed}
use Rattle.spec_scopes.proofs.laws.names_are_resolved.Goals as goal

pub returns-clause-count : goal.returns-clause-count
returns-clause-count c = names_counted

pub returns-clause-place : goal.returns-clause-place
returns-clause-place c = names_placed
