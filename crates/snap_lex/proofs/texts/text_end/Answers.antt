use Rattle.std.proofs.Common.{◌+◌, sym, ◌∙◌, ap, arith, rules}
use Rattle.std.proofs.lemmas.Result.{err_from_is_err_and}
use Rattle.spec_tokens.specs.Text.{text_end}
use Rattle.spec_tokens.proofs.Texts.{text_end-quote, text_end-item, text_end-wrong, text_end-none}
use Rattle.snap_lex.proofs.texts.text_end.Goals as goal

pub returns-then-rest-quote-clause-exact : goal.returns-then-rest-quote-clause-exact
returns-then-rest-quote-clause-exact c =
    sym (text_end-quote c.args.quote c.args.start c.loop-rest.place c.loop-rest.rest.now (search rules) (search rules)) ∙ c.loop-rest.invariant.0

pub returns-in_err-len-clause-exact : goal.returns-in_err-len-clause-exact
returns-in_err-len-clause-exact c =
    let p = err_from_is_err_and c.from_residual.result c.from_residual.ensures.1 in
    rw (p.1, p.2)
    (sym (text_end-wrong c.args.quote c.args.start c.loop-rest.place c.loop-rest.rest.now c.in_err-len.field-0.0 (search rules) (search rules) (sym c.in_err-len.ensures.exact)) ∙ c.loop-rest.invariant.0)

pub loop-rest-preserved : goal.loop-rest-preserved
loop-rest-preserved c =
    let within = c.in_ok-len.ensures.within in
    let item = text_end-item c.args.quote c.args.start c.loop-rest.place c.in_ok-len.len c.loop-rest.rest.now (search rules) (search rules) within.0 (sym c.in_ok-len.ensures.exact) in
    (ap (text_end c.args.quote c.args.start 0 (c.loop-rest.place + c.in_ok-len.len)) c.behind-rest.ensures.rest ∙ sym item ∙ c.loop-rest.invariant.0, omega arith, omega arith, omega arith)

pub returns-clause-exact : goal.returns-clause-exact
returns-clause-exact c =
    sym (text_end-none c.args.quote c.args.start c.loop-rest.place c.loop-rest.rest.now (search rules)) ∙ c.loop-rest.invariant.0
