use Rattle.std.proofs.Common.{◌≡◌, suc, ◌-◌, ◌<◌, get_or, length, map, subst, arith}
use Rattle.snap_blob.specs.declared.startups.ShapeStep.{ShapeStep}
use Rattle.snap_blob.specs.OpenShapes.{IsMarked}
use Rattle.snap_blob.specs.Steps.{pair_of}
use Rattle.snap_blob.proofs.KeyPaths.{left}
use Rattle.snap_blob.proofs.Lawful.{pair_at}
use Rattle.snap_blob.proofs.shape_walk.climb.Goals as goal

pub loop-reached-preserved : goal.loop-reached-preserved
loop-reached-preserved c =
    let shapes = c.args.shapes.now in
    let none : ShapeStep = record { parent = 0; name = 0 } in
    let n = c.loop-reached.reached - 1 in
    let step = get_or shapes n none in
    let inside : n < length shapes = omega arith in
    let here = c.requires.bounded n none inside in
    let reached : c.loop-reached.reached ≡ suc n = omega arith in
    let marked = subst (λ s. IsMarked (map pair_of shapes) s c.loop-reached.marks) reached c.loop-reached.invariant.marked in
    record {
      within = omega (arith, here.0);
      marked = left (map pair_of shapes) n step.parent step.name c.loop-reached.marks (pair_at shapes n none inside) (omega (arith, here.1)) marked;
    }
