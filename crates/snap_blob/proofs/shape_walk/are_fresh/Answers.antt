use Rattle.std.proofs.Common.{◌≡◌, false, replicate, map, sym, subst, rules}
use Rattle.snap_blob.specs.OpenShapes.{IsMarked}
use Rattle.snap_blob.specs.Steps.{pair_of}
use Rattle.snap_blob.proofs.KeyPaths.{none_marked}
use Rattle.snap_blob.proofs.shape_walk.are_fresh.Goals as goal

pub visit_all-requires-clause-marked : goal.visit_all-requires-clause-marked
visit_all-requires-clause-marked c =
    let empty : c.as_mut_slice.result.now ≡ replicate c.args.strings false = search rules in
    subst (IsMarked (map pair_of c.args.shapes.now) 0) (sym empty) (none_marked (map pair_of c.args.shapes.now) c.args.strings)
