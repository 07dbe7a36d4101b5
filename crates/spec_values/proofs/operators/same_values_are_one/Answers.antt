use Rattle.spec_values.proofs.Sameness.{found_same, one_value}
use Rattle.spec_values.proofs.operators.same_values_are_one.Goals as goal

pub returns : goal.returns
returns c = record { one = one_value; found = found_same }
