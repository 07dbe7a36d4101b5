use Rattle.std.proofs.Common.{refl}
use Rattle.std.specs.Fmt.{digits}
use Rattle.snap_graph.specs.Intrinsics.{constructors, host_objects, intrinsics, prototypes}
use Rattle.spec_values.proofs.rows.rows_of_globals.Goals as goal

pub returns : goal.returns
unfolding intrinsics prototypes constructors host_objects digits
returns c = record { found = refl; inherited = refl; absent = refl; written = refl; shadowed = refl; gone = refl }
