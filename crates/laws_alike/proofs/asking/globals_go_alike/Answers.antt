use Rattle.laws_alike.proofs.Questions.{defined_alike, find_alike, set_global_alike}
use Rattle.laws_alike.proofs.asking.globals_go_alike.Goals as goal

pub returns : goal.returns
returns c = record {
  find = λ world global other text p. find_alike global other p text;
  read = λ world found other h. defined_alike found other h;
  write = λ world global other name value next p e. set_global_alike global other p name value next e;
}
