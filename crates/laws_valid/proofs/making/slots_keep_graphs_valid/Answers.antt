use Rattle.laws_valid.proofs.Made.{slot_valid}
use Rattle.laws_valid.proofs.making.slots_keep_graphs_valid.Goals as goal

pub returns : goal.returns
returns c = slot_valid
