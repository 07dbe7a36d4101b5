use Rattle.laws_valid.proofs.Beginning.{intrinsics_valid}
use Rattle.laws_valid.proofs.making.intrinsics_are_valid.Goals as goal

pub returns : goal.returns
returns c = intrinsics_valid
