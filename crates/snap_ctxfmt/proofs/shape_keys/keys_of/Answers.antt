use Rattle.std.proofs.Common.{◌≡◌, ◌++◌, ◌-◌, [], ◌∷◌, get_or, map, sym, subst, arith, rules}
use Rattle.std.specs.Prelude.{ℕ, List}
use Rattle.snap_blob.specs.Steps.{pair_of}
use Rattle.snap_blob.specs.declared.startups.ShapeStep.{ShapeStep}
use Rattle.spec_format.specs.Shapes.{HasKeys}
use Rattle.spec_format.specs.Shapes.HasKeys.{Root}
use Rattle.snap_ctxfmt.proofs.Keys.{one_step, step_at}
use Rattle.snap_ctxfmt.proofs.shape_keys.keys_of.Goals as goal

-- a step for places behind the last
abbrev nowhere : ShapeStep
nowhere = record { parent = 0; name = 0 }

pub loop-at-smaller : goal.loop-at-smaller
loop-at-smaller c =
    let at = c.loop-at.at in
    let step = step_at c.args.shapes.now at nowhere c.loop-at-test.true c.loop-at.invariant.within in
    let shape = get_or c.args.shapes.now (at - 1) nowhere in
    omega (arith, c.requires.parents (at - 1) shape.parent shape.name step, c.loop-at-test.true)

pub loop-at-preserved : goal.loop-at-preserved
loop-at-preserved c =
    let at = c.loop-at.at in
    let shapes = c.args.shapes.now in
    let step = step_at shapes at nowhere c.loop-at-test.true c.loop-at.invariant.within in
    let shape = get_or shapes (at - 1) nowhere in
    let pushed : c.push.new.self.items ≡ c.loop-at.keys.items ++ shape.name ∷ [] = search rules in
    record {
      within = omega (arith, c.requires.parents (at - 1) shape.parent shape.name step, c.loop-at-test.true, c.loop-at.invariant.within);
      whole = one_step (map pair_of shapes) c.args.shape at shape.parent shape.name c.loop-at.keys.items _ c.loop-at-test.true step c.loop-at.invariant.whole pushed;
    }

pub returns : goal.returns
returns c =
    let steps = map pair_of c.args.shapes.now in
    let P : ℕ → Type 0 = λ n. HasKeys steps n [] in
    let Q : List ℕ → Type 0 = λ keys. HasKeys steps c.args.shape keys in
    let root : ◌≡◌ {A = ℕ} 0 c.loop-at.at = omega (arith, c.loop-at-test.false) in
    subst Q (sym c.reverse.ensures.items) (c.loop-at.invariant.whole [] (subst P root Root))
