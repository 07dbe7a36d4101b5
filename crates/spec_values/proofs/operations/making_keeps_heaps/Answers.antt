use Rattle.spec_values.proofs.Made.{made_lawful}
use Rattle.spec_values.proofs.operations.making_keeps_heaps.Goals as goal

pub returns : goal.returns
returns c = made_lawful
