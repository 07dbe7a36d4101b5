-- Keys that are no array index.
use Rattle.std.proofs.Common.{◌≡◌, ℕ, suc, ◌^◌, ◌<◌, Bool, true, false, nat_lt, ℤ, pos, negsuc, unsigned_abs, if◌then◌else◌, List, ◌∷◌, codes, Option, None, Some, Result, Ok, refl, sym, ap, subst, ◌∙◌, arith}
use Rattle.std.specs.Fmt.{decimal, digits, signed_decimal}
use Rattle.std.specs.Str.Parse.{AllDigits, digits_value}
use Rattle.std.proofs.lemmas.Str.Parse.{digit_from_value}
use Rattle.std.proofs.lemmas.Bool.{false≢true, lt-ltb, ltb-true}
use Rattle.std.proofs.lemmas.Fmt.{decimal_is_IsNumeral}
use Rattle.snap_base.specs.declared.stop.Stop.{Stop}
use Rattle.snap_graph.specs.declared.value.Value.{Value}
use Rattle.snap_graph.specs.declared.value.Value.TheVariants.{Undefined, Null, Bool as Truth, Int, Text, Node as At, Empty}
use Rattle.snap_graph.specs.OwnKeys.{array_index, index_end}
use Rattle.snap_graph.specs.Values.{IsSafe, IsValue}
use Rattle.snap_graph.proofs.Indices.{index_text, text_index}
use Rattle.spec_values.specs.Access.{index_of, number_index}
use Rattle.spec_values.specs.Conversions.{text_of}

-- a text is an index, or none
index_or_none : (text : List ℕ) (found : Option ℕ) → array_index text ≡ found → ((n : ℕ) → array_index text ≡ Some n → ⊥) → array_index text ≡ None
index_or_none text None e never = e
index_or_none text (Some n) e never = absurd (never n e)

-- the text of a number that is no index is none
number_text : (z : ℤ) → IsSafe z → number_index z ≡ None → array_index (signed_decimal z) ≡ None
number_text (pos m) safe e =
    index_or_none (decimal m) (array_index (decimal m)) refl (λ n i.
    let is = index_text (decimal m) n i in
    let same : m ≡ n = sym (decimal_is_IsNumeral m (omega arith)).1 ∙ ap (digits_value 10) is.1 ∙ (decimal_is_IsNumeral n (omega (arith, is.0))).1 in
    let below : m < index_end = omega (arith, is.0) in
    let some : number_index (pos m) ≡ Some m = rw (lt-ltb m index_end below) refl in
    absurd cc)
number_text (negsuc m) safe e =
    index_or_none (45 ∷ decimal (suc m)) (array_index (45 ∷ decimal (suc m))) refl (λ n i.
    let is = index_text (45 ∷ decimal (suc m)) n i in
    let all = subst (AllDigits 10) (sym is.1) (decimal_is_IsNumeral n (omega (arith, is.0))).0.1 in
    let digit = digit_from_value 45 all.0 in
    absurd (omega (arith, digit)))

-- a word is no index
word_text : (text name : List ℕ) → array_index text ≡ None → text ≡ name → array_index name ≡ None
word_text text name e same = ap array_index (sym same) ∙ e

same_result : (text name : List ℕ) → ◌≡◌ {A = Result (List ℕ) Stop} (Ok text) (Ok name) → text ≡ name
same_result text name e = cc

undefined_text : array_index (codes "undefined") ≡ None
unfolding digits
undefined_text = refl

null_text : array_index (codes "null") ≡ None
unfolding digits
null_text = refl

true_text : array_index (codes "true") ≡ None
unfolding digits
true_text = refl

false_text : array_index (codes "false") ≡ None
unfolding digits
false_text = refl

-- the name of a key that is no index is none
pub name_text : (count : ℕ) (key : Value) (name : List ℕ) → IsValue count key → index_of key ≡ None → text_of key ≡ Ok name → array_index name ≡ None
name_text count Undefined name v e t = word_text (codes "undefined") name undefined_text (same_result (codes "undefined") name t)
name_text count Null name v e t = word_text (codes "null") name null_text (same_result (codes "null") name t)
name_text count (Truth true) name v e t = word_text (codes "true") name true_text (same_result (codes "true") name t)
name_text count (Truth false) name v e t = word_text (codes "false") name false_text (same_result (codes "false") name t)
name_text count (Int z) name v e t = word_text (signed_decimal z) name (number_text z v e) (same_result (signed_decimal z) name t)
name_text count (Text text) name v e t = word_text text name e (same_result text name t)
name_text count (At node) name v e t = absurd cc
name_text count Empty name v e t = absurd v

-- the index of a number that has at most 64 bits is that of its text
number_kept : (z : ℤ) → unsigned_abs z < 2 ^ 64 → number_index z ≡ array_index (signed_decimal z)
number_kept (pos m) small = by (nat_lt m index_end) refl
  where
    by : (b : Bool) → nat_lt m index_end ≡ b → (if b then Some m else None) ≡ array_index (decimal m)
    by true e = sym (text_index m (ltb-true m index_end e))
    by false e =
        sym (index_or_none (decimal m) (array_index (decimal m)) refl (λ n i.
        let is = index_text (decimal m) n i in
        let same : m ≡ n = sym (decimal_is_IsNumeral m small).1 ∙ ap (digits_value 10) is.1 ∙ (decimal_is_IsNumeral n (omega (arith, is.0))).1 in
        let below : m < index_end = omega (arith, is.0) in
        false≢true (sym e ∙ lt-ltb m index_end below)))
number_kept (negsuc m) small =
    sym (index_or_none (45 ∷ decimal (suc m)) (array_index (45 ∷ decimal (suc m))) refl (λ n i.
    let is = index_text (45 ∷ decimal (suc m)) n i in
    let all = subst (AllDigits 10) (sym is.1) (decimal_is_IsNumeral n (omega (arith, is.0))).0.1 in
    absurd (omega (arith, digit_from_value 45 all.0))))

-- a number of a key has at most 64 bits
abbrev pub IsNarrow : Value → Type 0
IsNarrow Undefined = Unit {0}
IsNarrow Null = Unit {0}
IsNarrow (Truth b) = Unit {0}
IsNarrow (Int z) = unsigned_abs z < 2 ^ 64
IsNarrow (Text text) = Unit {0}
IsNarrow (At node) = Unit {0}
IsNarrow Empty = Unit {0}

-- the index that a key is is that of its text
pub index_kept : (key : Value) (name : List ℕ) → IsNarrow key → text_of key ≡ Ok name → index_of key ≡ array_index name
index_kept Undefined name h t = sym (word_text (codes "undefined") name undefined_text (same_result (codes "undefined") name t))
index_kept Null name h t = sym (word_text (codes "null") name null_text (same_result (codes "null") name t))
index_kept (Truth true) name h t = sym (word_text (codes "true") name true_text (same_result (codes "true") name t))
index_kept (Truth false) name h t = sym (word_text (codes "false") name false_text (same_result (codes "false") name t))
index_kept (Int z) name h t = number_kept z h ∙ ap array_index (same_result (signed_decimal z) name t)
index_kept (Text text) name h t = ap array_index (same_result text name t)
index_kept (At node) name h t = absurd cc
index_kept Empty name h t = absurd cc
