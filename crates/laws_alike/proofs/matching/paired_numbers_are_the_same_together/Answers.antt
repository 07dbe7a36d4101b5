use Rattle.laws_alike.proofs.Pairing.{numbers_same}
use Rattle.laws_alike.proofs.matching.paired_numbers_are_the_same_together.Goals as goal

pub returns : goal.returns
returns c = λ world one other first second next last alike p q. numbers_same alike first second next last p q
