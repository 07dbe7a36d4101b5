use Rattle.std.proofs.Common.{Ok, sym, ap}
use Rattle.snap_graph.specs.declared.value.Value.TheVariants.{Undefined, Null}
use Rattle.snap_object.proofs.Naming.{text_so}
use Rattle.snap_object.proofs.names.spelled.Goals as goal

pub returns-in_ok-copy-in-Undefined : goal.returns-in_ok-copy-in-Undefined
returns-in_ok-copy-in-Undefined c = text_so c.args.key.now Undefined c.in_ok-copy-in-Undefined.field-0 c.in-Undefined.is tt (ap Ok (sym c.in_ok-copy-in-Undefined.ensures))

pub returns-in_ok-copy-in-Null : goal.returns-in_ok-copy-in-Null
returns-in_ok-copy-in-Null c = text_so c.args.key.now Null c.in_ok-copy-in-Null.field-0 c.in-Null.is tt (ap Ok (sym c.in_ok-copy-in-Null.ensures))
