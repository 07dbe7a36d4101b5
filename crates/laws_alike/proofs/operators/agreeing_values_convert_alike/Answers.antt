use Rattle.laws_alike.proofs.Naming.{text_same}
use Rattle.laws_alike.proofs.Operating.{number_same, truth_same}
use Rattle.laws_alike.proofs.operators.agreeing_values_convert_alike.Goals as goal

pub returns : goal.returns
returns c = record { number = number_same; text = text_same; truth = truth_same }
