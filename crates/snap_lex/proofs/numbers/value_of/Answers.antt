use Rattle.std.proofs.Common.{◌+◌, ◌*◌, drop, sym, ◌∙◌, ap, arith}
use Rattle.std.proofs.lemmas.List.{at_drop_all}
use Rattle.spec_tokens.specs.Number.{value_from}
use Rattle.spec_tokens.proofs.Numbers.{value_from-least, value_from-drop}
use Rattle.snap_lex.proofs.numbers.value_of.Goals as goal

pub returns-then-value-gt-LARGEST : goal.returns-then-value-gt-LARGEST
returns-then-value-gt-LARGEST c =
    let step = value_from-drop c.args.base c.loop-byte.value c.args.digits.now c.loop-byte.byte-index c.loop-byte-test.true in
    let least = value_from-least c.args.base (c.loop-byte.value * c.args.base + c.digit_value.result) (drop (c.loop-byte.byte-index + 1) c.args.digits.now) c.requires.low in
    let same = sym c.loop-byte.invariant.0 ∙ step ∙ ap (λ d. value_from c.args.base (c.loop-byte.value * c.args.base + d) (drop (c.loop-byte.byte-index + 1) c.args.digits.now)) (sym c.digit_value.ensures.value) in
    omega (arith, least, same)

pub loop-byte-preserved : goal.loop-byte-preserved
loop-byte-preserved c =
    let step = value_from-drop c.args.base c.loop-byte.value c.args.digits.now c.loop-byte.byte-index c.loop-byte-test.true in
    (ap (λ d. value_from c.args.base (c.loop-byte.value * c.args.base + d) (drop (c.loop-byte.byte-index + 1) c.args.digits.now)) c.digit_value.ensures.value ∙ sym step ∙ c.loop-byte.invariant.0, omega arith)

pub returns : goal.returns
unfolding value_from
returns c =
    (sym (at_drop_all (value_from c.args.base c.loop-byte.value) c.args.digits.now c.loop-byte.byte-index c.loop-byte-test.false) ∙ c.loop-byte.invariant.0, omega arith)
