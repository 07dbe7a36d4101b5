use Rattle.std.proofs.Common.{rules, arith, ◌≡◌, suc, ◌+◌, ◌-◌}
use Rattle.std.proofs.lemmas.Grind.{common_steps}
use Rattle.spec_grammar.specs.Read.{phrase}
use Rattle.snap_parse.proofs.Rise.{group-is, rise-last, rise-more}
use Rattle.snap_parse.proofs.grammar.Grammar.group.Goals as goal

pub returns-in_err-inner : goal.returns-in_err-inner
returns-in_err-inner g c =
    let e = group-is (phrase c.args.self.now.room) c.args.self.now.room c.args.count c.args.cursor.now c.requires.some c.requires.counted in
    first_of (search rules, grind (arith, common_steps))

pub loop-closed-init : goal.loop-closed-init
loop-closed-init g c =
    let e = group-is (phrase c.args.self.now.room) c.args.self.now.room c.args.count c.args.cursor.now c.requires.some c.requires.counted in
    first_of (search rules, grind (arith, common_steps))

pub returns-in_err-outer : goal.returns-in_err-outer
returns-in_err-outer g c =
    let more : c.args.count - c.loop-closed.closed ≡ suc (c.args.count - (c.loop-closed.closed + 1)) = omega arith in
    let e = rise-more (phrase c.args.self.now.room) c.args.self.now.room c.args.cursor.now (c.args.count - c.loop-closed.closed) (c.args.count - (c.loop-closed.closed + 1)) c.loop-closed.inner c.loop-closed.cursor more in
    first_of (search rules, grind (arith, common_steps))

pub returns-in_err-inner-2 : goal.returns-in_err-inner-2
returns-in_err-inner-2 g c =
    let more : c.args.count - c.loop-closed.closed ≡ suc (c.args.count - (c.loop-closed.closed + 1)) = omega arith in
    let e = rise-more (phrase c.args.self.now.room) c.args.self.now.room c.args.cursor.now (c.args.count - c.loop-closed.closed) (c.args.count - (c.loop-closed.closed + 1)) c.loop-closed.inner c.loop-closed.cursor more in
    first_of (search rules, grind (arith, common_steps))

pub loop-closed-preserved : goal.loop-closed-preserved
loop-closed-preserved g c =
    let more : c.args.count - c.loop-closed.closed ≡ suc (c.args.count - (c.loop-closed.closed + 1)) = omega arith in
    let e = rise-more (phrase c.args.self.now.room) c.args.self.now.room c.args.cursor.now (c.args.count - c.loop-closed.closed) (c.args.count - (c.loop-closed.closed + 1)) c.loop-closed.inner c.loop-closed.cursor more in
    first_of (search rules, grind (arith, common_steps))

pub returns : goal.returns
returns g c =
    let none : c.args.count - c.loop-closed.closed ≡ 0 = omega arith in
    let e = rise-last (phrase c.args.self.now.room) c.args.self.now.room c.args.cursor.now (c.args.count - c.loop-closed.closed) c.loop-closed.inner c.loop-closed.cursor none in
    first_of (search rules, grind (arith, common_steps))
