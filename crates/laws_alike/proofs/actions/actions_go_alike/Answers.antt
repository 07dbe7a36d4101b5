use Rattle.laws_alike.proofs.Binding.{bind_alike, give_alike, stop_alike, throw_alike}
use Rattle.laws_alike.proofs.actions.actions_go_alike.Goals as goal

pub returns : goal.returns
returns g c = record {
  bind = λ world x y first second h next. bind_alike h next;
  give = λ world a b h. give_alike a b h;
  throw = λ world value other h. throw_alike value other h;
  stop = λ world why. stop_alike why;
}
