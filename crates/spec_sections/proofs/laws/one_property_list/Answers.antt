use Rattle.spec_sections.proofs.Properties.{one_denoted}
use Rattle.spec_sections.proofs.laws.one_property_list.Goals as goal

pub returns : goal.returns
returns c = one_denoted
