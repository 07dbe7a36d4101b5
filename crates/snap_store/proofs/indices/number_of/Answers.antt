use Rattle.std.proofs.Common.{◌≤◌, length, take, arith, ap, sym, ◌∙◌, ◌+◌, ◌*◌, ℕ, refl}
use Rattle.std.specs.Str.Parse.{digits_value}
use Rattle.std.proofs.lemmas.Int.Digits.{digits_more, digits_value_more}
use Rattle.std.proofs.lemmas.List.{length-take}
use Rattle.snap_store.proofs.Indexing.{digit_among, few_digits}
use Rattle.snap_store.proofs.indices.number_of.Goals as goal

pub overflow_mul-number : goal.overflow_mul-number
overflow_mul-number c =
    let few : length (take c.loop-unit.unit-index c.args.units.now) ≤ 9 = omega (arith, length-take c.loop-unit.unit-index c.args.units.now, c.loop-unit-test.true, c.requires) in
    omega (arith, few_digits (take c.loop-unit.unit-index c.args.units.now) c.loop-unit.invariant.digits few, c.loop-unit.invariant.value)

pub returns-in_err-number-clause-none : goal.returns-in_err-number-clause-none
returns-in_err-number-clause-none c = λ e digits. c.in_err-number.ensures.none refl (digit_among c.args.units.now c.loop-unit.unit-index digits c.loop-unit-test.true)

pub overflow_add-number : goal.overflow_add-number
overflow_add-number c =
    let few : length (take c.loop-unit.unit-index c.args.units.now) ≤ 9 = omega (arith, length-take c.loop-unit.unit-index c.args.units.now, c.loop-unit-test.true, c.requires) in
    omega (arith, few_digits (take c.loop-unit.unit-index c.args.units.now) c.loop-unit.invariant.digits few, c.loop-unit.invariant.value, c.in_ok-number.ensures.some.1)

pub loop-unit-preserved : goal.loop-unit-preserved
loop-unit-preserved c =
    let h = c.in_ok-number.ensures.some in
    record {
      digits = digits_more 10 c.args.units.now c.loop-unit.unit-index c.loop-unit-test.true c.loop-unit.invariant.digits (omega (arith, h.0, h.1));
      value = ap (λ (n : ℕ). n * 10 + c.in_ok-number.field-0) c.loop-unit.invariant.value ∙ ap (λ (d : ℕ). digits_value 10 (take c.loop-unit.unit-index c.args.units.now) * 10 + d) h.0 ∙ sym (digits_value_more 10 c.args.units.now c.loop-unit.unit-index c.loop-unit-test.true);
    }
