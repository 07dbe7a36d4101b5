use Rattle.laws_alike.proofs.Looking.{count_alike, element_alike, frozen_alike, kind_alike, own_alike, own_keys_alike, prototype_alike, seen_alike}
use Rattle.laws_alike.proofs.Naming.{entries_seen, reached_alike}
use Rattle.laws_alike.proofs.operations.looks_go_alike.Goals as goal

pub returns : goal.returns
returns c = record {
  kind = λ world number other p. seen_alike (kind_alike number other p);
  prototype = λ world number other p. seen_alike (prototype_alike number other p);
  own = λ world number other key p. seen_alike (own_alike key number other p);
  own_keys = λ world number other p. seen_alike (own_keys_alike number other p);
  count = λ world number other p. seen_alike (count_alike number other p);
  element = λ world number other place p. seen_alike (element_alike place number other p);
  frozen = λ world number other p. seen_alike (frozen_alike number other p);
  entries = λ world prototype other_prototype number other p q. seen_alike (entries_seen prototype other_prototype p number other q);
  reached = λ world number other p. seen_alike (reached_alike number other p);
}
