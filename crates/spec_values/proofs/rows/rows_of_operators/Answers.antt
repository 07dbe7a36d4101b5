use Rattle.std.proofs.Common.{refl}
use Rattle.std.specs.Fmt.{digits}
use Rattle.snap_graph.specs.Intrinsics.{constructors, host_objects, intrinsics, prototypes}
use Rattle.spec_values.proofs.rows.rows_of_operators.Goals as goal

pub returns : goal.returns
unfolding intrinsics prototypes constructors host_objects digits
returns c = record { past = refl; minus_zero = refl; dividend = refl; negative = refl; inexact = refl; exact = refl; joined = refl; joined_left = refl; added = refl; texts = refl; numbers = refl; mixed = refl; same = refl; shifted = refl; count = refl; signed = refl; unsigned = refl; wrapped = refl; inverted = refl; empty = refl; text = refl }
