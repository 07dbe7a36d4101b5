use Rattle.std.proofs.Common.{rules, arith}
use Rattle.std.proofs.lemmas.Grind.{common_steps}
use Rattle.spec_grammar.specs.Outcome.{Refusal}
use Rattle.spec_grammar.specs.Read.{phrase}
use Rattle.spec_grammar.specs.ReadExpressions.{climb}
use Rattle.snap_cursor.specs.Reads.{cause_of}
use Rattle.snap_parse.proofs.Climb.{climb-more, climb-refused}
use Rattle.snap_parse.proofs.grammar.Grammar.climb.Goals as goal

pub loop-level-init : goal.loop-level-init
unfolding climb
loop-level-init g c = first_of (search rules, grind (arith, common_steps))

pub returns-in_err-left : goal.returns-in_err-left
returns-in_err-left g c =
    let refusal : Refusal = record { cause = cause_of c.in_err-left.field-0.0; at = c.chain.new.cursor } in
    let e = climb-refused (phrase c.args.self.now.room) c.args.self.now.room c.args.left c.args.cursor.now c.args.levels c.loop-level.level c.loop-level.left c.loop-level.cursor refusal c.loop-level-test.true c.loop-level.invariant in
    first_of (search rules, grind (arith, common_steps))

pub loop-level-preserved : goal.loop-level-preserved
loop-level-preserved g c =
    let e = climb-more (phrase c.args.self.now.room) c.args.self.now.room c.args.left c.args.cursor.now c.loop-level.level c.loop-level.left c.loop-level.cursor c.loop-level.invariant in
    first_of (search rules, grind (arith, common_steps))
