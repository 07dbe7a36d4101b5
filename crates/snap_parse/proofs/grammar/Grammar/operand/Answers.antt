use Rattle.std.proofs.Common.{rules, arith, ◌<◌}
use Rattle.std.proofs.lemmas.Grind.{common_steps}
use Rattle.spec_grammar.specs.Read.{phrase}
use Rattle.snap_parse.proofs.Rise.{operand-is}
use Rattle.snap_parse.proofs.grammar.Grammar.operand.Goals as goal

pub returns-in_err-left : goal.returns-in_err-left
returns-in_err-left g c =
    let some : 0 < c.in_ok-count.count = omega arith in
    let e = operand-is (phrase c.args.self.now.room) c.args.self.now.room c.in_ok-count.count c.args.level c.args.cursor.now some in
    first_of (search rules, grind (arith, common_steps))

pub returns-in_err-value : goal.returns-in_err-value
returns-in_err-value g c =
    let some : 0 < c.in_ok-count.count = omega arith in
    let e = operand-is (phrase c.args.self.now.room) c.args.self.now.room c.in_ok-count.count c.args.level c.args.cursor.now some in
    first_of (search rules, grind (arith, common_steps))

pub returns : goal.returns
returns g c =
    let some : 0 < c.in_ok-count.count = omega arith in
    let e = operand-is (phrase c.args.self.now.room) c.args.self.now.room c.in_ok-count.count c.args.level c.args.cursor.now some in
    first_of (search rules, grind (arith, common_steps))
