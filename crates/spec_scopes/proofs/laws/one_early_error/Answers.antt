use Rattle.spec_scopes.proofs.Told.{none_told, told_stands}
use Rattle.spec_scopes.proofs.laws.one_early_error.Goals as goal

pub returns-clause-stands : goal.returns-clause-stands
returns-clause-stands c = told_stands

pub returns-clause-none : goal.returns-clause-none
returns-clause-none c = none_told
