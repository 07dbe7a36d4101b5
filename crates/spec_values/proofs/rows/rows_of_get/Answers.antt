use Rattle.std.proofs.Common.{refl}
use Rattle.std.specs.Fmt.{digits}
use Rattle.snap_graph.specs.Intrinsics.{constructors, host_objects, intrinsics, prototypes}
use Rattle.spec_values.proofs.rows.rows_of_get.Goals as goal

pub returns : goal.returns
unfolding intrinsics prototypes constructors host_objects digits
returns c = record { own = refl; inherited = refl; absent = refl; unit = refl; spelled = refl; units = refl; method = refl; elements = refl; special = refl; prototype = refl; node_key = refl; undefined = refl; size = refl }
