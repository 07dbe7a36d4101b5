use Rattle.std.proofs.Common.{rules, arith}
use Rattle.std.proofs.lemmas.Grind.{common_steps}
use Rattle.spec_grammar.specs.Outcome.{expect}
use Rattle.snap_cursor.proofs.NamesFrom.{names-before, names-behind, names-none, next-smaller}
use Rattle.snap_cursor.proofs.names.names.Goals as goal

pub names-preserved-then-is_behind : goal.names-preserved-then-is_behind
unfolding expect
names-preserved-then-is_behind c =
    let e = names-behind c.args.close c.args.may_lack c.names.found.items c.names.cursor c.requires in
    first_of (search rules, grind (arith, common_steps))

pub names-preserved : goal.names-preserved
unfolding expect
names-preserved c =
    let e = names-before c.args.close c.args.may_lack c.names.found.items c.names.cursor c.requires in
    first_of (search rules, grind (arith, common_steps))

pub names-smaller-then-is_behind : goal.names-smaller-then-is_behind
unfolding expect
names-smaller-then-is_behind c = let e = next-smaller c.names.cursor in first_of (search rules, grind (arith, common_steps))

pub names-smaller : goal.names-smaller
unfolding expect
names-smaller c = let e = next-smaller c.names.cursor in first_of (search rules, grind (arith, common_steps))

pub returns-then-sees : goal.returns-then-sees
unfolding expect
returns-then-sees c =
    let e = names-behind c.args.close c.args.may_lack c.names.found.items c.names.cursor c.requires in
    first_of (search rules, grind (arith, common_steps))

pub returns-in_err-expect : goal.returns-in_err-expect
unfolding expect
returns-in_err-expect c =
    let e = names-behind c.args.close c.args.may_lack c.names.found.items c.names.cursor c.requires in
    first_of (search rules, grind (arith, common_steps))

pub returns-then-is_empty : goal.returns-then-is_empty
unfolding expect
returns-then-is_empty c =
    let e = names-before c.args.close c.args.may_lack c.names.found.items c.names.cursor c.requires in
    first_of (search rules, grind (arith, common_steps))

pub returns-in_err-expect-2 : goal.returns-in_err-expect-2
unfolding expect
returns-in_err-expect-2 c =
    let e = names-before c.args.close c.args.may_lack c.names.found.items c.names.cursor c.requires in
    first_of (search rules, grind (arith, common_steps))

pub returns-else-sees-2 : goal.returns-else-sees-2
unfolding expect
returns-else-sees-2 c =
    let e = names-before c.args.close c.args.may_lack c.names.found.items c.names.cursor c.requires in
    first_of (search rules, grind (arith, common_steps))

pub returns : goal.returns
unfolding expect
returns c =
    let e = names-none c.args.close c.args.may_lack c.names.is_behind c.names.found.items c.names.cursor in
    first_of (search rules, grind (arith, common_steps))
