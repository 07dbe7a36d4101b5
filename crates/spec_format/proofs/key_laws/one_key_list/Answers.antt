use Rattle.spec_format.proofs.Shapes.{one_key_list as one_list}
use Rattle.spec_format.proofs.key_laws.one_key_list.Goals as goal

pub returns : goal.returns
returns c = one_list
