-- Array indices and their texts.
use Rattle.std.proofs.Common.{◌≡◌, ℕ, ◌<◌, Bool, true, false, ◌&&◌, nat_lt, List, Some, None, refl, ap, ◌∙◌, if◌then◌else◌, arith}
use Rattle.std.specs.Fmt.{decimal}
use Rattle.std.specs.Str.{bytes_eq as text_eq}
use Rattle.std.specs.Str.Parse.{digits_value}
use Rattle.std.proofs.lemmas.Bool.{and_parts, lt-ltb, ltb-true}
use Rattle.std.proofs.lemmas.Fmt.{decimal_is_IsNumeral}
use Rattle.std.proofs.lemmas.Slice.Eq.{bytes_eq-Decides}
use Rattle.snap_graph.specs.OwnKeys.{array_index, index_end}

-- a test that gives a number
given : (b : Bool) (m n : ℕ) → (if b then Some m else None) ≡ Some n → (b ≡ true) × (m ≡ n)
given true m n e = (refl, cc)
given false m n e = absurd cc

-- a text that is an index is the text of its number
pub index_text : (text : List ℕ) (n : ℕ) → array_index text ≡ Some n → (n < index_end) × (text ≡ decimal n)
index_text text n e =
    let m = digits_value 10 text in
    let is = given (nat_lt m index_end && text_eq text (decimal m)) m n e in
    let parts = and_parts (nat_lt m index_end) (text_eq text (decimal m)) is.0 in
    let below = ltb-true m index_end parts.0 in
    let same = (bytes_eq-Decides text (decimal m)).0 parts.1 in
    (omega (arith, is.1), same ∙ ap decimal is.1)

-- the text of a number below 2^32 - 1 is its index
pub text_index : (n : ℕ) → n < index_end → array_index (decimal n) ≡ Some n
text_index n h =
    let value = (decimal_is_IsNumeral n (omega arith)).1 in
    rw (value, lt-ltb n index_end h, (bytes_eq-Decides (decimal n) (decimal n)).1 refl) refl
