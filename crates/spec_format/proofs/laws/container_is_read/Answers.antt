use Rattle.spec_format.specs.Container.{container}
use Rattle.spec_format.proofs.Containers.{checks_from, read_container, sections_of_read, checked_read}
use Rattle.spec_format.proofs.laws.container_is_read.Goals as goal

pub returns : goal.returns
returns c = record {
  passes = λ sections holds. checks_from (container 1 sections) (checked_read (container 1 sections) sections holds (read_container sections holds));
  same = λ sections holds. sections_of_read (container 1 sections) sections (read_container sections holds);
}
