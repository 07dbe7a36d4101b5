use Rattle.blob_rows.proofs.Three.{three_lawful}
use Rattle.blob_rows.proofs.tests.sections.three_shapes.Goals as goal

pub returns : goal.returns
returns c = three_lawful
