use Rattle.laws_alike.proofs.Making.{make_alike, make_function_alike, make_scope_alike, use_alike}
use Rattle.laws_alike.proofs.operations.making_goes_alike.Goals as goal

pub returns : goal.returns
returns c = record {
  make = λ world kind prototype other e. make_alike kind prototype other e;
  function = λ world script tree scope other e. make_function_alike script tree scope other e;
  scope = λ world kind outer other slots others e h. make_scope_alike kind outer other e slots others h;
  key = λ world key. use_alike key;
}
