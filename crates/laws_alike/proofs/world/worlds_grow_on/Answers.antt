use Rattle.laws_alike.proofs.Worlds.{grows_on, grows_self}
use Rattle.laws_alike.proofs.world.worlds_grow_on.Goals as goal

pub returns : goal.returns
returns c = record { itself = grows_self; onward = grows_on }
