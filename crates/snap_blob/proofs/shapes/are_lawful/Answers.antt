use Rattle.std.proofs.Common.{◌↔◌, IsTrue, map, sym, ◌∙◌}
use Rattle.std.proofs.lemmas.Bool.{false≢true, true≢false}
use Rattle.std.proofs.lemmas.Result.{IfOk-weaker}
use Rattle.spec_format.specs.Shapes.{AreLawful}
use Rattle.snap_blob.specs.OpenShapes.{AreFresh}
use Rattle.snap_blob.specs.Steps.{pair_of}
use Rattle.snap_blob.proofs.Lawful.{bounded_from, fresh_from, lawful_from}
use Rattle.snap_blob.proofs.shapes.are_lawful.Goals as goal

pub returns-then-not-are_bounded : goal.returns-then-not-are_bounded
returns-then-not-are_bounded c = (
  λ e. absurd (false≢true e),
  λ l. absurd (true≢false (sym (c.are_bounded.ensures.1 (bounded_from c.args.strings c.args.shapes.now l)) ∙ c.if-not-are_bounded.true)),
)

pub returns : goal.returns
returns c =
    let strings = c.args.strings in
    let shapes = c.args.shapes.now in
    let bounded = c.are_bounded.ensures.0 c.if-not-are_bounded.false in
    let apart = c.in_ok-are_apart.ensures.0 c.if-not-branch.false in
    IfOk-weaker c.are_fresh.result (λ b. IsTrue b ↔ AreFresh (map pair_of shapes)) (λ b. IsTrue b ↔ AreLawful strings (map pair_of shapes))
    (λ b judged. (λ yes. lawful_from strings shapes bounded apart (judged.0 yes), λ l. judged.1 (fresh_from strings shapes l)))
    c.are_fresh.ensures
