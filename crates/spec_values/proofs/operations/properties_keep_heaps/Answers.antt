use Rattle.spec_values.proofs.Elements.{with_own_lawful, without_own_lawful}
use Rattle.spec_values.proofs.operations.properties_keep_heaps.Goals as goal

pub returns : goal.returns
returns c = record {
  put = λ nodes number node key value lawful at loose is_value free. with_own_lawful nodes number node lawful at key value loose is_value free;
  removed = λ nodes number node key lawful at loose. without_own_lawful nodes number node lawful at key loose;
}
