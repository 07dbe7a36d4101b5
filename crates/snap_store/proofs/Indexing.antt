-- Which texts are indices.
use Rattle.std.proofs.Common.{◌≡◌, ℕ, ◌<◌, ◌≤◌, ◌^◌, zero, suc, List, length, get_or, Option, None, Some, refl, sym, ap, subst, ◌∙◌, arith}
use Rattle.std.specs.Char.{digit_value}
use Rattle.std.specs.Fmt.{decimal}
use Rattle.std.specs.Str.Parse.{AllDigits, digits_value}
use Rattle.std.proofs.Math.Nat.{pow-le-pow_right}
use Rattle.std.proofs.lemmas.Fmt.{decimal-digits_value, decimal_is_IsNumeral, decimal_nonempty, first_decimal, length-decimal-le}
use Rattle.std.proofs.lemmas.Str.Parse.{digit_at, numerals_by_value, tells_digits}
use Rattle.std.proofs.lemmas.Str.{digit_value_digit}
use Rattle.std.proofs.lemmas.Int.Digits.{digits_value-lt}
use Rattle.snap_graph.specs.OwnKeys.{array_index, index_end}
use Rattle.snap_graph.proofs.Indices.{index_text, text_index}
use Rattle.snap_store.specs.Indices.{IsShort}

-- digits in no other form are the text of their number
pub is_index : (text : List ℕ) → IsShort text → AllDigits 10 text → digits_value 10 text < index_end → array_index text ≡ Some (digits_value 10 text)
is_index text short digits below =
    let same = decimal-digits_value (numerals_by_value (AllDigits 10) tells_digits) text digits short.0 short.2 (omega arith) in
    ap array_index (sym same) ∙ text_index (digits_value 10 text) below

-- what an index is
index_short : (n : ℕ) → n < index_end → IsShort (decimal n)
index_short zero h = let one = length-decimal-le 1 0 (omega arith) (omega arith) (omega arith) in (decimal_nonempty 0 (omega arith), omega (arith, one), λ e. omega (arith, one, decimal_nonempty 0 (omega arith)))
index_short (suc n) h = (decimal_nonempty (suc n) (omega arith), length-decimal-le 10 (suc n) (omega arith) (omega arith) (omega arith), λ e. absurd (omega (arith, first_decimal (suc n) (omega arith) (omega arith))))

none_unless : (text : List ℕ) (found : Option ℕ) → array_index text ≡ found → ((n : ℕ) → n < index_end → text ≡ decimal n → ⊥) → array_index text ≡ None
none_unless text None e never = e
none_unless text (Some n) e never = let is = index_text text n e in absurd (never n is.0 is.1)

pub no_index_long : (text : List ℕ) → (IsShort text → ⊥) → array_index text ≡ None
no_index_long text never = none_unless text (array_index text) refl (λ n h e. never (subst IsShort (sym e) (index_short n h)))

pub no_index_words : (text : List ℕ) → (AllDigits 10 text → ⊥) → array_index text ≡ None
no_index_words text never = none_unless text (array_index text) refl (λ n h e. never (subst (AllDigits 10) (sym e) (decimal_is_IsNumeral n (omega arith)).0.1))

-- few digits are a small number
pub few_digits : (text : List ℕ) → AllDigits 10 text → length text ≤ 9 → digits_value 10 text < 10 ^ 9
few_digits text digits few = omega (arith, digits_value-lt 10 text digits, pow-le-pow_right {n = 10} (omega arith) few)

-- a unit among digits
pub digit_among : (text : List ℕ) (place : ℕ) → AllDigits 10 text → place < length text → digit_value (get_or text place 0) < 10
digit_among text place digits within = let digit = digit_at text place digits within in omega (arith, digit, digit_value_digit (get_or text place 0) digit)
