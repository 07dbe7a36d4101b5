use Rattle.snap_io.specs.NamedFile.{LacksBefore}
use Rattle.snap_io.proofs.named.place_of.Given as goal

abbrev pub invariant-loop-place : goal.invariant-loop-place
invariant-loop-place l = LacksBefore l.name l.files l.place
