use Rattle.std.proofs.Common.{rules, arith}
use Rattle.std.proofs.lemmas.Grind.{common_steps}
use Rattle.spec_grammar.specs.Read.{script, script_from}
use Rattle.snap_parse.proofs.Script.{script-end, script-more, script-stop}
use Rattle.snap_cursor.proofs.Turns.{no_more, one_more}
use Rattle.snap_parse.proofs.reader.script.Goals as goal

pub loop-turn-init : goal.loop-turn-init
unfolding script
loop-turn-init c = first_of (search rules, grind (arith, common_steps))

pub returns-then-is_empty : goal.returns-then-is_empty
returns-then-is_empty c =
    let e = script-end _ _ _ c.loop-turn.invariant in
    first_of (search rules, grind (arith, common_steps))

pub returns-in_err-statement : goal.returns-in_err-statement
returns-in_err-statement c =
    let e = script-more _ _ _ (one_more (λ n. script_from n c.loop-turn.row c.loop-turn.cursor) _ c.loop-turn._turn c.loop-turn-test.true c.loop-turn.invariant) in
    first_of (search rules, grind (arith, common_steps))

pub loop-turn-preserved : goal.loop-turn-preserved
loop-turn-preserved c =
    let e = script-more _ _ _ (one_more (λ n. script_from n c.loop-turn.row c.loop-turn.cursor) _ c.loop-turn._turn c.loop-turn-test.true c.loop-turn.invariant) in
    first_of (search rules, grind (arith, common_steps))

pub returns-then-is_empty-2 : goal.returns-then-is_empty-2
returns-then-is_empty-2 c =
    let e = script-end _ _ _ c.loop-turn.invariant in
    first_of (search rules, grind (arith, common_steps))

pub returns-else-is_empty-2 : goal.returns-else-is_empty-2
returns-else-is_empty-2 c =
    let e = script-stop _ _ (no_more (λ n. script_from n c.loop-turn.row c.loop-turn.cursor) _ c.loop-turn._turn c.loop-turn-test.false c.loop-turn.invariant) in
    first_of (search rules, grind (arith, common_steps))
