use Rattle.std.proofs.Common.{◌<◌, map, refl, subst, ap, ◌∙◌, arith}
use Rattle.snap_blob.specs.declared.visits.Visit.{Visit}
use Rattle.snap_blob.specs.declared.startups.ShapeStep.{ShapeStep}
use Rattle.snap_blob.specs.OpenShapes.{AreFresh, IsFresh}
use Rattle.snap_blob.specs.Steps.{pair_of}
use Rattle.snap_blob.proofs.Lawful.{pair_read}
use Rattle.snap_blob.proofs.shape_walk.visit_all.Goals as goal

pub returns : goal.returns
returns c =
    let shapes = c.args.shapes.now in
    let visits = c.args.visits.now in
    let none : ShapeStep = record { parent = 0; name = 0 } in
    let fresh : AreFresh (map pair_of shapes) = λ n parent name at.
    let read = pair_read shapes n parent name none at in
    let visit = c.requires.whole.all n read.inside in
    let place = visit.1 in
    let below : place.0 < c.loop-visit.visit-index = omega (arith, place.1) in
    let there = c.loop-visit.invariant.fresh place.0 visit.0 below in
    subst (IsFresh (map pair_of shapes)) (ap (λ (v : Visit). v.shape) place.2 ∙ visit.2) there parent name at in
    (λ _. fresh, λ _. refl)
