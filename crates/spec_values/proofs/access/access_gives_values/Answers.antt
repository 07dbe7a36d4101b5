use Rattle.spec_values.proofs.Reading.{get_gives, global_gives}
use Rattle.spec_values.proofs.access.access_gives_values.Goals as goal

pub returns : goal.returns
returns c = record { get = get_gives; find_global = global_gives }
