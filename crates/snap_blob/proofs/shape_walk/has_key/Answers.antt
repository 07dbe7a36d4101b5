use Rattle.std.proofs.Common.{◌≡◌, suc, ◌-◌, ◌<◌, get_or, length, map, inl, inr, sym, refl, subst, arith}
use Rattle.snap_blob.specs.declared.startups.ShapeStep.{ShapeStep}
use Rattle.snap_blob.specs.OpenShapes.{HasKey}
use Rattle.snap_blob.specs.Steps.{pair_of}
use Rattle.snap_blob.proofs.KeyPaths.{inherited_key, key_cases, own_key}
use Rattle.snap_blob.proofs.Lawful.{low_parents, pair_at}
use Rattle.snap_blob.proofs.shape_walk.has_key.Goals as goal

pub returns-then-step-name : goal.returns-then-step-name
returns-then-step-name c =
    let shapes = c.args.shapes.now in
    let n = c.loop-above.above - 1 in
    let step = get_or shapes n (record { parent = 0; name = 0 }) in
    let inside : n < length shapes = omega arith in
    let at = pair_at shapes n (record { parent = 0; name = 0 }) inside in
    let own = own_key (map pair_of shapes) (low_parents shapes c.requires.low) n step.parent step.name at in
    let above : suc n ≡ c.loop-above.above = omega arith in
    let key : HasKey (map pair_of shapes) c.loop-above.above c.args.name =
    subst (HasKey (map pair_of shapes) c.loop-above.above) c.if-step-name.true (subst (λ s. HasKey (map pair_of shapes) s step.name) above own) in
    (λ _. c.loop-above.invariant.same.0 key, λ _. refl)

pub loop-above-preserved : goal.loop-above-preserved
loop-above-preserved c =
    let shapes = c.args.shapes.now in
    let none : ShapeStep = record { parent = 0; name = 0 } in
    let n = c.loop-above.above - 1 in
    let step = get_or shapes n none in
    let inside : n < length shapes = omega arith in
    let at = pair_at shapes n none inside in
    let low = c.requires.low n none inside in
    let above : suc n ≡ c.loop-above.above = omega arith in
    let same = c.loop-above.invariant.same in
    record {
      within = omega arith;
      same = (
        λ key. same.0 (subst (λ s. HasKey (map pair_of shapes) s c.args.name) above (inherited_key (map pair_of shapes) n step.parent step.name c.args.name at key)),
        λ key. elim (key_cases (map pair_of shapes) n step.parent step.name c.args.name at (subst (λ s. HasKey (map pair_of shapes) s c.args.name) (sym above) (same.1 key))) [
          | inl own ↦ absurd (c.if-step-name.false own)
          | inr up ↦ up
        ],
      );
    }
