use Rattle.std.proofs.Common.{rules, arith}
use Rattle.std.proofs.lemmas.Grind.{common_steps}
use Rattle.snap_cursor.proofs.Past.{start_end, start_past}
use Rattle.snap_cursor.proofs.cursor.Cursor.start_behind.Goals as goal

pub returns-in-None : goal.returns-in-None
returns-in-None c =
    let e = start_end c.self.inside.rest.now c.args.count in
    first_of (search rules, grind (arith, common_steps))

pub returns-in-Some : goal.returns-in-Some
returns-in-Some c =
    let e = start_past c.self.inside.rest.now c.args.count c.in-Some.token.now in
    first_of (search rules, grind (arith, common_steps))
