use Rattle.std.proofs.Common.{sym, arith, rules}
use Rattle.std.proofs.lemmas.List.Sums.{prefix_len_is}
use Rattle.spec_tokens.specs.Byte.{is_in_line}
use Rattle.snap_lex.proofs.byte.line_len.Goals as goal

pub returns-then-not-is_in_line-clause-value : goal.returns-then-not-is_in_line-clause-value
returns-then-not-is_in_line-clause-value c =
    sym (prefix_len_is is_in_line c.args.bytes.now c.loop-i.i 0 (omega arith) c.loop-i.invariant (λ _. search rules))

pub returns-clause-value : goal.returns-clause-value
returns-clause-value c = sym (prefix_len_is is_in_line c.args.bytes.now _ 0 (omega arith) (λ k below. c.loop-i.invariant k (omega arith)) (λ short. absurd (omega arith)))
