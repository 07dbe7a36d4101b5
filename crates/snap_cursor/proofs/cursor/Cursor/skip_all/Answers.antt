use Rattle.std.proofs.Common.{rules, arith, ◌+◌, ◌-◌}
use Rattle.std.proofs.lemmas.Grind.{common_steps}
use Rattle.snap_cursor.specs.Past.{past}
use Rattle.snap_cursor.proofs.Past.{past-more, past-none}
use Rattle.snap_cursor.proofs.Turns.{no_more, one_more}
use Rattle.snap_cursor.proofs.cursor.Cursor.skip_all.Goals as goal

pub loop-taken-preserved : goal.loop-taken-preserved
loop-taken-preserved c =
    let e = one_more (λ n. past n c.loop-taken.self) _ c.loop-taken._taken c.loop-taken-test.true c.loop-taken.invariant in
    let step = past-more c.loop-taken.self (c.args.count - (c.loop-taken._taken + 1)) in
    first_of (search rules, grind (arith, common_steps))

pub returns : goal.returns
returns c =
    let e = no_more (λ n. past n c.loop-taken.self) _ c.loop-taken._taken c.loop-taken-test.false c.loop-taken.invariant in
    let step = past-none c.loop-taken.self in
    first_of (search rules, grind (arith, common_steps))
