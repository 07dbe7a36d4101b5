use Rattle.std.proofs.Common.{rules, arith}
use Rattle.std.proofs.lemmas.Grind.{common_steps}
use Rattle.spec_grammar.specs.Outcome.{expect}
use Rattle.spec_grammar.specs.Read.{phrase}
use Rattle.spec_grammar.specs.ReadStatements.{bindings, bindings_from}
use Rattle.snap_cursor.proofs.Turns.{one_more, no_more}
use Rattle.snap_parse.proofs.grammar.Grammar.bindings.Goals as goal

pub loop-turn-init : goal.loop-turn-init
unfolding bindings
loop-turn-init g c = first_of (search rules, grind (arith, common_steps))

pub returns-in_err-row : goal.returns-in_err-row
unfolding bindings_from expect
returns-in_err-row g c =
    let e = one_more (λ n. bindings_from (phrase c.args.self.now.room) n c.loop-turn.row c.loop-turn.cursor) _ c.loop-turn._turn c.loop-turn-test.true c.loop-turn.invariant in
    first_of (search rules, grind (arith, common_steps))

pub returns-then-not-sees : goal.returns-then-not-sees
unfolding bindings_from expect
returns-then-not-sees g c =
    let e = one_more (λ n. bindings_from (phrase c.args.self.now.room) n c.loop-turn.row c.loop-turn.cursor) _ c.loop-turn._turn c.loop-turn-test.true c.loop-turn.invariant in
    first_of (search rules, grind (arith, common_steps))

pub loop-turn-preserved : goal.loop-turn-preserved
unfolding bindings_from expect
loop-turn-preserved g c =
    let e = one_more (λ n. bindings_from (phrase c.args.self.now.room) n c.loop-turn.row c.loop-turn.cursor) _ c.loop-turn._turn c.loop-turn-test.true c.loop-turn.invariant in
    first_of (search rules, grind (arith, common_steps))

pub returns : goal.returns
unfolding bindings_from expect
returns g c =
    let e = no_more (λ n. bindings_from (phrase c.args.self.now.room) n c.loop-turn.row c.loop-turn.cursor) _ c.loop-turn._turn c.loop-turn-test.false c.loop-turn.invariant in
    first_of (search rules, grind (arith, common_steps))
