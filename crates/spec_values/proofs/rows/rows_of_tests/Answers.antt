use Rattle.std.proofs.Common.{refl}
use Rattle.std.specs.Fmt.{digits}
use Rattle.snap_graph.specs.Intrinsics.{constructors, host_objects, intrinsics, prototypes}
use Rattle.spec_values.proofs.rows.rows_of_tests.Goals as goal

pub returns : goal.returns
unfolding intrinsics prototypes constructors host_objects digits
returns c = record { function = refl; null = refl; own = refl; inherited = refl; undefined_held = refl; unit = refl; units = refl; size = refl; special = refl; nothing = refl }
