use Rattle.spec_values.proofs.Elements.{with_closed_lawful, with_frozen_lawful}
use Rattle.spec_values.proofs.operations.marks_keep_heaps.Goals as goal

pub returns : goal.returns
returns c = record {
  frozen = λ nodes number node lawful at. with_frozen_lawful nodes number node lawful at;
  closed = λ nodes number resource node closed lawful at is_resource. with_closed_lawful nodes number node lawful at resource closed is_resource;
}
