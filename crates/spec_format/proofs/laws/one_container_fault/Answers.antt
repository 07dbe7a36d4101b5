use Rattle.spec_format.specs.Container.{container_checks}
use Rattle.spec_format.proofs.Checks.{one_fault, no_fault}
use Rattle.spec_format.proofs.laws.one_container_fault.Goals as goal

pub returns : goal.returns
returns c = record {
  one = λ bytes f g. one_fault (container_checks bytes) f g;
  none = λ bytes f. no_fault (container_checks bytes) f;
}
