use Rattle.spec_format.proofs.Spellings.{varint_spelled, one_spelling}
use Rattle.spec_format.specs.Varint.{varint}
use Rattle.spec_format.proofs.varint_laws.varint_spells.Goals as goal

pub returns-clause-spells : goal.returns-clause-spells
returns-clause-spells c = varint_spelled

pub returns-clause-alone : goal.returns-clause-alone
returns-clause-alone c = λ text n small spelled. one_spelling text (varint n) n spelled (varint_spelled n small)
