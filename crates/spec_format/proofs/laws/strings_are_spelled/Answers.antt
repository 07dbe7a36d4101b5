use Rattle.spec_format.proofs.StringLists.{front_spelled, whole_spelled}
use Rattle.spec_format.proofs.laws.strings_are_spelled.Goals as goal

pub returns : goal.returns
returns c = record { front = front_spelled; whole = whole_spelled }
