use Rattle.spec_values.proofs.Elements.{with_element_lawful, with_fewer_lawful, with_more_lawful}
use Rattle.spec_values.proofs.operations.elements_keep_heaps.Goals as goal

pub returns : goal.returns
returns c = record {
  set = λ nodes number node place value lawful at may. with_element_lawful nodes number node lawful at place value may;
  pushed = λ nodes number node value lawful at may. with_more_lawful nodes number node lawful at value may;
  popped = λ nodes number node lawful at is_array loose. with_fewer_lawful nodes number node lawful at is_array loose;
}
