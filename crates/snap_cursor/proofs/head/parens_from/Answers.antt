use Rattle.std.proofs.Common.{rules, ◌≡◌, length, arith}
use Rattle.std.proofs.lemmas.Grind.{common_steps}
use Rattle.snap_cursor.proofs.Opening.{parens-more, parens-none, parens-stop}
use Rattle.snap_cursor.proofs.head.parens_from.Goals as goal

pub returns-then-not-branch-clause-value : goal.returns-then-not-branch-clause-value
returns-then-not-branch-clause-value c =
    let e = parens-stop c.loop-count.cursor in
    first_of (search rules, grind (arith, common_steps))

pub loop-count-preserved : goal.loop-count-preserved
loop-count-preserved c =
    let e = parens-more c.loop-count.cursor in
    first_of (search rules, grind (arith, common_steps))

pub returns-clause-value : goal.returns-clause-value
returns-clause-value c =
    let none : length c.loop-count.cursor ≡ 0 = omega arith in
    let e = parens-none c.loop-count.cursor none in
    first_of (search rules, grind (arith, common_steps))
