use Rattle.std.proofs.Common.{◌+◌, sym, ◌∙◌, ap, arith, rules}
use Rattle.spec_tokens.specs.Gap.{comment_end}
use Rattle.spec_tokens.proofs.Gaps.{comment_end-closed, comment_end-more, comment_end-wrong, comment_end-none}
use Rattle.snap_lex.proofs.gaps.comment_end.Goals as goal

pub returns-then-starts_with-clause-exact : goal.returns-then-starts_with-clause-exact
returns-then-starts_with-clause-exact c =
    sym (comment_end-closed c.args.start c.loop-rest.place c.loop-rest.rest.now (sym c.starts_with.ensures.value ∙ c.if-starts_with.true)) ∙ c.loop-rest.invariant.0

pub returns-then-not-is_source-clause-exact : goal.returns-then-not-is_source-clause-exact
returns-then-not-is_source-clause-exact c =
    sym (comment_end-wrong c.args.start c.loop-rest.place c.loop-rest.rest.now (search rules) (sym c.starts_with.ensures.value ∙ c.if-starts_with.false) (sym c.is_source.ensures ∙ c.if-not-is_source.true)) ∙ c.loop-rest.invariant.0

pub loop-rest-preserved : goal.loop-rest-preserved
loop-rest-preserved c =
    let more = comment_end-more c.args.start c.loop-rest.place c.loop-rest.rest.now (search rules) (sym c.starts_with.ensures.value ∙ c.if-starts_with.false) (sym c.is_source.ensures ∙ c.if-not-is_source.false) in
    (ap (comment_end c.args.start (c.loop-rest.place + 1)) c.behind-rest.ensures.rest ∙ sym more ∙ c.loop-rest.invariant.0, omega arith, omega arith, omega arith)

pub returns-clause-exact : goal.returns-clause-exact
returns-clause-exact c =
    sym (comment_end-none c.args.start c.loop-rest.place c.loop-rest.rest.now (search rules)) ∙ c.loop-rest.invariant.0
