use Rattle.std.proofs.Common.{rules, arith}
use Rattle.std.proofs.lemmas.Grind.{common_steps}
use Rattle.spec_grammar.specs.Outcome.{expect}
use Rattle.spec_grammar.specs.Read.{phrase}
use Rattle.spec_grammar.specs.ReadExpressions.{tail, tail_from}
use Rattle.snap_cursor.proofs.Turns.{one_more, no_more}
use Rattle.snap_parse.proofs.grammar.Grammar.tail.Goals as goal

pub loop-turn-init : goal.loop-turn-init
unfolding tail
loop-turn-init g c = first_of (search rules, grind (arith, common_steps))

pub returns-then-not-is_tail : goal.returns-then-not-is_tail
unfolding tail_from expect
returns-then-not-is_tail g c =
    let e = one_more (λ n. tail_from (phrase c.args.self.now.room) c.args.self.now.room c.args.calls n c.loop-turn.left c.loop-turn.cursor) _ c.loop-turn._turn c.loop-turn-test.true c.loop-turn.invariant in
    first_of (search rules, grind (arith, common_steps))

pub returns-in_err-left : goal.returns-in_err-left
unfolding tail_from expect
returns-in_err-left g c =
    let e = one_more (λ n. tail_from (phrase c.args.self.now.room) c.args.self.now.room c.args.calls n c.loop-turn.left c.loop-turn.cursor) _ c.loop-turn._turn c.loop-turn-test.true c.loop-turn.invariant in
    first_of (search rules, grind (arith, common_steps))

pub loop-turn-preserved : goal.loop-turn-preserved
unfolding tail_from expect
loop-turn-preserved g c =
    let e = one_more (λ n. tail_from (phrase c.args.self.now.room) c.args.self.now.room c.args.calls n c.loop-turn.left c.loop-turn.cursor) _ c.loop-turn._turn c.loop-turn-test.true c.loop-turn.invariant in
    first_of (search rules, grind (arith, common_steps))

pub returns : goal.returns
unfolding tail_from expect
returns g c =
    let e = no_more (λ n. tail_from (phrase c.args.self.now.room) c.args.self.now.room c.args.calls n c.loop-turn.left c.loop-turn.cursor) _ c.loop-turn._turn c.loop-turn-test.false c.loop-turn.invariant in
    first_of (search rules, grind (arith, common_steps))
