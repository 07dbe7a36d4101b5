use Rattle.std.proofs.Common.{sym, rules}
use Rattle.spec_tokens.proofs.Texts.{units_from-step, units_from-all, units_from-wrong, units_from-none}
use Rattle.snap_lex.proofs.texts.units_of.Goals as goal

pub loop-rest-preserved : goal.loop-rest-preserved
loop-rest-preserved c =
    let within = c.in-Some.ensures.within in
    units_from-step _ _ c.loop-rest.rest.now _ _ c.from.result c.in-Some.found (search rules) within.0 (sym c.in-Some.ensures.value) c.from.ensures c.in_ok-push-in-Some.ensures.items c.behind-rest.ensures.rest c.loop-rest.invariant

pub returns-in-None : goal.returns-in-None
returns-in-None c = units_from-all _ c.loop-rest.rest.now _ (units_from-wrong c.loop-rest.rest.now (search rules) (sym c.in-None.ensures.value)) c.loop-rest.invariant

pub returns : goal.returns
returns c = units_from-all _ c.loop-rest.rest.now _ (units_from-none c.loop-rest.rest.now (search rules)) c.loop-rest.invariant
