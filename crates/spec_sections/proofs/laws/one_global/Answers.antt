use Rattle.spec_sections.proofs.Sections.{same_section}
use Rattle.spec_sections.proofs.laws.one_global.Goals as goal

pub returns : goal.returns
returns c = same_section
