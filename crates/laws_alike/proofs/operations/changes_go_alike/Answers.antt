use Rattle.laws_alike.proofs.Changing.{add_element_alike, add_elements_alike, close_alike, freeze_alike, pop_alike, push_alike, put_alike, remove_alike, set_element_alike, write_alike}
use Rattle.laws_alike.proofs.operations.changes_go_alike.Goals as goal

pub returns : goal.returns
returns c = record {
  put = λ world number other key value next p e. put_alike key value next e number other p;
  write = λ world number other key value next p e. write_alike key value next e number other p;
  remove = λ world number other key p. remove_alike key number other p;
  push = λ world number other value next p e. push_alike value next e number other p;
  add = λ world number other value next p e. add_element_alike value next e number other p;
  add_all = λ world number other values others p h. add_elements_alike values others h number other p;
  set = λ world number other place value next p e. set_element_alike place value next e number other p;
  pop = λ world number other p. pop_alike number other p;
  freeze = λ world number other p. freeze_alike number other p;
  close = λ world number other p. close_alike number other p;
}
