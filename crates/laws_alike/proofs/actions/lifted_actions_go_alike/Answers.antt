use Rattle.laws_alike.proofs.Lifting.{lift_alike}
use Rattle.laws_alike.proofs.actions.lifted_actions_go_alike.Goals as goal

pub returns : goal.returns
returns g c = λ world place x y stays h. lift_alike place stays h
