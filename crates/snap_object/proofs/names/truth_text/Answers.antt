use Rattle.std.proofs.Common.{Ok, true, false, sym, ap}
use Rattle.snap_graph.specs.declared.value.Value.TheVariants.{Bool as Truth}
use Rattle.snap_object.proofs.Naming.{text_so}
use Rattle.snap_object.proofs.names.truth_text.Goals as goal

pub returns-in_ok-copy : goal.returns-in_ok-copy
returns-in_ok-copy c = text_so (Truth c.args.truth) (Truth true) c.in_ok-copy.field-0 (ap Truth c.if-truth.true) tt (ap Ok (sym c.in_ok-copy.ensures))

pub returns-in_ok-copy-2 : goal.returns-in_ok-copy-2
returns-in_ok-copy-2 c = text_so (Truth c.args.truth) (Truth false) c.in_ok-copy-2.field-0 (ap Truth c.if-truth.false) tt (ap Ok (sym c.in_ok-copy-2.ensures))
