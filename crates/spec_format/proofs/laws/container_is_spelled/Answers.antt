use Rattle.spec_format.proofs.Containers.{checked_from, container_spelled}
use Rattle.spec_format.proofs.laws.container_is_spelled.Goals as goal

pub returns : goal.returns
returns c = λ bytes fits h. container_spelled bytes fits (checked_from bytes h)
