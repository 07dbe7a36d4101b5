use Rattle.spec_values.proofs.Results.{binary_gives, unary_gives}
use Rattle.spec_values.proofs.operators.operators_give_values.Goals as goal

pub returns : goal.returns
returns c = record { binary = binary_gives; unary = unary_gives }
