use Rattle.laws_alike.proofs.Operating.{binary_same, same_same, unary_same}
use Rattle.laws_alike.proofs.operators.operators_give_the_same.Goals as goal

pub returns : goal.returns
returns c = record {
  same = λ world one other left other_left right other_right alike e h. same_same alike left other_left right other_right e h;
  binary = λ world one other op left other_left right other_right alike e h. binary_same alike op left other_left right other_right e h;
  unary = unary_same;
}
