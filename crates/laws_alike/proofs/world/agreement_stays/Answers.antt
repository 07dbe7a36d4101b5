use Rattle.laws_alike.proofs.Worlds.{lists_stay, maybe_stays, numbers_stay, same_stays, values_stay}
use Rattle.laws_alike.proofs.world.agreement_stays.Goals as goal

pub returns : goal.returns
returns g c = record {
  same = same_stays;
  values = values_stay;
  numbers = numbers_stay;
  maybe = maybe_stays g.A.Related.common;
  lists = lists_stay g.A.Related.common;
}
