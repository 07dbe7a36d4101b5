use Rattle.laws_alike.proofs.Operating.{binary_alike, unary_alike}
use Rattle.laws_alike.proofs.operators.operators_go_alike.Goals as goal

pub returns : goal.returns
returns c = record {
  binary = λ world op left other_left right other_right e h. binary_alike op left other_left right other_right e h;
  unary = λ world op value other h. unary_alike op value other h;
}
