use Rattle.std.proofs.Common.{get_or, length, map, sym, subst, add-one, ◌∙◌, true≢false, arith}
use Rattle.snap_blob.specs.declared.startups.ShapeStep.{ShapeStep}
use Rattle.snap_blob.specs.OpenShapes.{HasKey, IsMarked}
use Rattle.snap_blob.specs.Steps.{pair_of}
use Rattle.snap_blob.proofs.KeyPaths.{entered}
use Rattle.snap_blob.proofs.Lawful.{fresh_at, low_parents, not_fresh_at, pair_at, parents_low}
use Rattle.snap_blob.proofs.shape_walk.enter.Goals as goal

pub returns-then-has_key-clause-fresh : goal.returns-then-has_key-clause-fresh
returns-then-has_key-clause-fresh c = not_fresh_at c.args.shapes.now c.args.index (record { parent = 0; name = 0 }) c.requires.inside (c.has_key.ensures.0 c.if-has_key.true)

pub returns-else-has_key-clause-fresh : goal.returns-else-has_key-clause-fresh
returns-else-has_key-clause-fresh c =
    fresh_at c.args.shapes.now c.args.index (record { parent = 0; name = 0 }) c.requires.inside
    (λ key. true≢false (sym (c.has_key.ensures.1 key) ∙ c.if-has_key.false))

pub returns-then-marks-name-clause-fresh : goal.returns-then-marks-name-clause-fresh
returns-then-marks-name-clause-fresh c =
    let shapes = c.args.shapes.now in
    let none : ShapeStep = record { parent = 0; name = 0 } in
    let step = get_or shapes c.args.index none in
    let here = c.requires.bounded c.args.index none c.requires.inside in
    let marked = (c.climb-next.ensures.marked.keys step.name (omega (arith, here.1))).0 c.if-marks-name.true in
    not_fresh_at shapes c.args.index none c.requires.inside (subst (λ s. HasKey (map pair_of shapes) s step.name) c.if-next-shape.false marked)

pub returns-clause-fresh : goal.returns-clause-fresh
returns-clause-fresh c =
    let shapes = c.args.shapes.now in
    let none : ShapeStep = record { parent = 0; name = 0 } in
    let step = get_or shapes c.args.index none in
    let here = c.requires.bounded c.args.index none c.requires.inside in
    let marked = c.climb-next.ensures.marked.keys step.name (omega (arith, here.1)) in
    fresh_at shapes c.args.index none c.requires.inside
    (λ key. true≢false (sym (marked.1 (subst (λ s. HasKey (map pair_of shapes) s step.name) (sym c.if-next-shape.false) key)) ∙ c.if-marks-name.false))

pub returns-clause-marked : goal.returns-clause-marked
returns-clause-marked c =
    let shapes = c.args.shapes.now in
    let none : ShapeStep = record { parent = 0; name = 0 } in
    let step = get_or shapes c.args.index none in
    let here = c.requires.bounded c.args.index none c.requires.inside in
    let parent = c.if-next-shape.false in
    let marked = c.climb-next.ensures.marked in
    let fresh : HasKey (map pair_of shapes) step.parent step.name → ⊥ =
    λ key. true≢false (sym ((marked.keys step.name (omega (arith, here.1))).1 (subst (λ s. HasKey (map pair_of shapes) s step.name) (sym parent) key)) ∙ c.if-marks-name.false) in
    let next = entered (map pair_of shapes) (low_parents shapes (parents_low (length c.args.marks.now) shapes c.requires.bounded)) c.args.index step.parent step.name c.climb-next.new.marks
    (pair_at shapes c.args.index none c.requires.inside) (omega (arith, here.1)) fresh (subst (λ s. IsMarked (map pair_of shapes) s c.climb-next.new.marks) parent marked) in
    rw add-one next
