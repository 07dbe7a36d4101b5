-- What operators give are values.
use Rattle.std.proofs.Common.{◌≡◌, ℕ, suc, ◌+◌, ◌*◌, ◌/◌, ◌%◌, ◌<◌, ◌^◌, ◌==◌, ℤ, pos, negsuc, ◌+ℤ◌, ◌-ℤ◌, ◌*ℤ◌, neg_ℤ, Bool, true, false, not, nat_lt, zero, List, ◌++◌, length, Result, Ok, Err, bit_and, bit_or, bit_xor, int_div, int_rem, unsigned_abs, FitsSigned, Fits, refl, subst, arith, if◌then◌else◌}
use Rattle.std.specs.Int.{cast_signed, cast_unsigned, int_bit_and, int_bit_or, int_bit_xor, int_shl, int_shr, w32}
use Rattle.std.specs.Int.Bits.{and_lt}
use Rattle.std.proofs.Math.Facts.{Fits-of_z, sfits_to_z}
use Rattle.std.proofs.lemmas.Bool.{ltb-true}
use Rattle.std.proofs.Math.Nat.{div-le_self}
use Rattle.std.specs.Int.Signed.{shr_z}
use Rattle.std.proofs.lemmas.Nat.{or_lt, xor_lt}
use Rattle.snap_base.specs.declared.limits.TheConstants.{MOST_ITEMS}
use Rattle.snap_base.specs.declared.stop.Stop.{Stop}
use Rattle.snap_base.specs.declared.stop.Stop.TheVariants.{NotSafeInteger, TooLong}
use Rattle.snap_graph.specs.declared.value.Value.{Value}
use Rattle.snap_graph.specs.declared.value.Value.TheVariants.{Undefined, Null, Bool as Truth, Int, Text, Node as At, Empty}
use Rattle.snap_graph.specs.Values.{IsSafe, IsValue}
use Rattle.spec_values.specs.Conversions.{number_of, safe, to_int32, text_of, to_uint32, truth_of}
use Rattle.spec_values.specs.declared.operator.BinaryOp.{BinaryOp}
use Rattle.spec_values.specs.declared.operator.BinaryOp.TheVariants as binary
use Rattle.spec_values.specs.declared.operator.UnaryOp.{UnaryOp}
use Rattle.spec_values.specs.declared.operator.UnaryOp.TheVariants as unary
use Rattle.spec_values.specs.Operators.{◌>>=◌, added, binary_value, inverted, joined, joined_values, less, on_numbers, quotient, rest, same_value, shift_count, unary_value}

-- a 32-bit integer is safe
small : (z : ℤ) → FitsSigned w32 z → IsSafe z
small (pos n) f = omega (arith, f.sfits)
small (negsuc n) f = omega (arith, f.sfits)

-- the first of two results was taken
taken : {A : Type 0} (b : Bool) (x y : Result A Stop) (a : A) (why : Stop) → (if b then x else Err why) ≡ Ok a → (b ≡ true) × (x ≡ Ok a)
taken true x y a why e = (refl, e)
taken false x y a why e = absurd cc

-- what was found to be safe is
pub safe_value : (count : ℕ) (z : ℤ) (v : Value) → safe z ≡ Ok v → IsValue count v
safe_value count (pos n) v e =
    let t = taken (nat_lt n (2 ^ 53)) (Ok (Int (pos n))) (Ok (Int (pos n))) v _ e in
    subst (IsValue count) (let same : Int (pos n) ≡ v = cc in same) (ltb-true n (2 ^ 53) t.0)
safe_value count (negsuc n) v e =
    let t = taken (nat_lt (suc n) (2 ^ 53)) (Ok (Int (negsuc n))) (Ok (Int (negsuc n))) v _ e in
    subst (IsValue count) (let same : Int (negsuc n) ≡ v = cc in same) (omega (arith, ltb-true (suc n) (2 ^ 53) t.0))

uint32_below : (z : ℤ) → to_uint32 z < 2 ^ 32
uint32_below (pos n) = omega arith
uint32_below (negsuc n) = omega arith

int32_fits : (z : ℤ) → FitsSigned w32 (to_int32 z)
int32_fits z = let fits : Fits w32 (to_uint32 z) = omega (arith, uint32_below z) in sfits_to_z fits

-- the first action gave a result
gave : {A B : Type 0} (r : Result A Stop) (f : A → Result B Stop) (b : B) → (r >>= f) ≡ Ok b → (a : A) × (r ≡ Ok a) × (f a ≡ Ok b)
gave (Ok a) f b e = (a, refl, e)
gave (Err why) f b e = absurd cc

-- bits of 32-bit integers
bits_below : (z : ℤ) → FitsSigned w32 z → cast_unsigned w32 z < 2 ^ 32
bits_below z f = let fits : Fits w32 (cast_unsigned w32 z) = Fits-of_z f in omega arith

signed_small : (n : ℕ) → n < 2 ^ 32 → IsSafe (cast_signed w32 n)
signed_small n h = let fits : Fits w32 n = omega arith in small (cast_signed w32 n) (sfits_to_z fits)

and_small : (y z : ℤ) → IsSafe (int_bit_and w32 (to_int32 y) (to_int32 z))
and_small y z = signed_small (bit_and (cast_unsigned w32 (to_int32 y)) (cast_unsigned w32 (to_int32 z))) (and_lt 32 _ _ (bits_below (to_int32 y) (int32_fits y)) (bits_below (to_int32 z) (int32_fits z)))

or_small : (y z : ℤ) → IsSafe (int_bit_or w32 (to_int32 y) (to_int32 z))
or_small y z = signed_small (bit_or (cast_unsigned w32 (to_int32 y)) (cast_unsigned w32 (to_int32 z))) (or_lt 32 _ _ (bits_below (to_int32 y) (int32_fits y)) (bits_below (to_int32 z) (int32_fits z)))

xor_small : (y z : ℤ) → IsSafe (int_bit_xor w32 (to_int32 y) (to_int32 z))
xor_small y z = signed_small (bit_xor (cast_unsigned w32 (to_int32 y)) (cast_unsigned w32 (to_int32 z))) (xor_lt 32 _ _ (bits_below (to_int32 y) (int32_fits y)) (bits_below (to_int32 z) (int32_fits z)))

shl_small : (y : ℤ) (k : ℕ) → IsSafe (int_shl w32 (to_int32 y) k)
shl_small y k = signed_small ((cast_unsigned w32 (to_int32 y) * 2 ^ k) % 2 ^ 32) (omega arith)

shr_small : (z : ℤ) (m : ℕ) → FitsSigned w32 z → IsSafe (shr_z z m)
shr_small (pos n) m f = omega (arith, f.sfits, div-le_self n m)
shr_small (negsuc n) m f = omega (arith, f.sfits, div-le_self n m)

ushr_small : (y : ℤ) (m : ℕ) → IsSafe (pos (to_uint32 y / m))
ushr_small y m = omega (arith, uint32_below y, div-le_self (to_uint32 y) m)

inverted_small : (z : ℤ) → FitsSigned w32 z → IsSafe (inverted z)
inverted_small (pos n) f = omega (arith, f.sfits)
inverted_small (negsuc n) f = omega (arith, f.sfits)

opposite_safe : (z : ℤ) → IsSafe z → IsSafe (neg_ℤ z)
opposite_safe (pos zero) h = omega arith
opposite_safe (pos (suc n)) h = omega arith
opposite_safe (negsuc n) h = omega arith

-- the number of a value is safe
number_safe : (count : ℕ) (v : Value) (z : ℤ) → IsValue count v → number_of v ≡ Ok z → IsSafe z
number_safe count Undefined z h e = absurd cc
number_safe count Null z h e = let same : pos 0 ≡ z = cc in subst IsSafe same (omega arith)
number_safe count (Truth true) z h e = let same : pos 1 ≡ z = cc in subst IsSafe same (omega arith)
number_safe count (Truth false) z h e = let same : pos 0 ≡ z = cc in subst IsSafe same (omega arith)
number_safe count (Int y) z h e = let same : y ≡ z = cc in subst IsSafe same h
number_safe count (Text text) z h e = absurd cc
number_safe count (At node) z h e = absurd cc
number_safe count Empty z h e = absurd cc

-- an integer that is given is the value
int_value : (count : ℕ) (z : ℤ) (v : Value) → IsSafe z → ◌≡◌ {A = Result Value Stop} (Ok (Int z)) (Ok v) → IsValue count v
int_value count z v h e = let same : Int z ≡ v = cc in subst (IsValue count) same h

truth_value : (count : ℕ) (b : Bool) (v : Value) → ◌≡◌ {A = Result Value Stop} (Ok (Truth b)) (Ok v) → IsValue count v
truth_value count b v e = let same : Truth b ≡ v = cc in subst (IsValue count) same tt

-- an operation on numbers gives values where it gives them of safe integers
on_numbers_value : (count : ℕ) (op : ℤ → ℤ → Result Value Stop) → ((y z : ℤ) (w : Value) → op y z ≡ Ok w → IsValue count w) → (left right v : Value) → on_numbers op left right ≡ Ok v → IsValue count v
on_numbers_value count op gives left right v e =
    let one = gave (number_of left) (λ y. number_of right >>= λ z. op y z) v e in
    let other = gave (number_of right) (λ z. op one.0 z) v one.2 in
    gives one.0 other.0 v other.2

joined_value : (count : ℕ) (left right : List ℕ) (v : Value) → joined left right ≡ Ok v → IsValue count v
joined_value count left right v e = by (nat_lt MOST_ITEMS (length left + length right)) e
  where
    by : (b : Bool) → (if b then Err TooLong else Ok (Text (left ++ right))) ≡ Ok v → IsValue count v
    by true e = absurd cc
    by false e = let same : Text (left ++ right) ≡ v = cc in subst (IsValue count) same tt

joined_values_value : (count : ℕ) (left right v : Value) → joined_values left right ≡ Ok v → IsValue count v
joined_values_value count left right v e =
    let one = gave (text_of left) (λ text. text_of right >>= λ other. joined text other) v e in
    let other = gave (text_of right) (λ text. joined one.0 text) v one.2 in
    joined_value count one.0 other.0 v other.2

sum_value : (count : ℕ) (left right v : Value) → on_numbers (λ y z. safe (y +ℤ z)) left right ≡ Ok v → IsValue count v
sum_value count left right v e = on_numbers_value count (λ y z. safe (y +ℤ z)) (λ y z w f. safe_value count (y +ℤ z) w f) left right v e

added_value : (count : ℕ) (left right v : Value) → added left right ≡ Ok v → IsValue count v
added_value count (Text text) right v e = joined_values_value count (Text text) right v e
added_value count left (Text text) v e = joined_values_value count left (Text text) v e
added_value count left right v e = sum_value count left right v e

quotient_value : (count : ℕ) (y z : ℤ) (v : Value) → quotient y z ≡ Ok v → IsValue count v
quotient_value count y z v e = by (unsigned_abs z == 0) e
  where
    by : (b : Bool) → (if b then Err NotSafeInteger else (if unsigned_abs (int_rem y z) == 0 then safe (int_div y z) else Err NotSafeInteger)) ≡ Ok v → IsValue count v
    by true e = absurd cc
    by false e = safe_value count (int_div y z) v (taken (unsigned_abs (int_rem y z) == 0) (safe (int_div y z)) (safe (int_div y z)) v NotSafeInteger e).1

rest_value : (count : ℕ) (y z : ℤ) (v : Value) → rest y z ≡ Ok v → IsValue count v
rest_value count y z v e = by (unsigned_abs z == 0) e
  where
    by : (b : Bool) → (if b then Err NotSafeInteger else safe (int_rem y z)) ≡ Ok v → IsValue count v
    by true e = absurd cc
    by false e = safe_value count (int_rem y z) v e

judged_value : (count : ℕ) (test : Bool → Bool) (answer : Result Bool Stop) (v : Value) → (answer >>= λ b. Ok (Truth (test b))) ≡ Ok v → IsValue count v
judged_value count test answer v e =
    let is = gave answer (λ b. Ok (Truth (test b))) v e in
    truth_value count (test is.0) v is.2

pub binary_gives : (count : ℕ) (op : BinaryOp) (left right v : Value) → binary_value op left right ≡ Ok v → IsValue count v
binary_gives count binary.Add left right v e = added_value count left right v e
binary_gives count binary.Sub left right v e = on_numbers_value count (λ y z. safe (y -ℤ z)) (λ y z w f. safe_value count (y -ℤ z) w f) left right v e
binary_gives count binary.Mul left right v e = on_numbers_value count (λ y z. safe (y *ℤ z)) (λ y z w f. safe_value count (y *ℤ z) w f) left right v e
binary_gives count binary.Div left right v e = on_numbers_value count quotient (quotient_value count) left right v e
binary_gives count binary.Rem left right v e = on_numbers_value count rest (rest_value count) left right v e
binary_gives count binary.BitAnd left right v e = on_numbers_value count (λ y z. Ok (Int (int_bit_and w32 (to_int32 y) (to_int32 z)))) (λ y z w f. int_value count _ w (and_small y z) f) left right v e
binary_gives count binary.BitXor left right v e = on_numbers_value count (λ y z. Ok (Int (int_bit_xor w32 (to_int32 y) (to_int32 z)))) (λ y z w f. int_value count _ w (xor_small y z) f) left right v e
binary_gives count binary.BitOr left right v e = on_numbers_value count (λ y z. Ok (Int (int_bit_or w32 (to_int32 y) (to_int32 z)))) (λ y z w f. int_value count _ w (or_small y z) f) left right v e
binary_gives count binary.Shl left right v e = on_numbers_value count (λ y z. Ok (Int (int_shl w32 (to_int32 y) (shift_count z)))) (λ y z w f. int_value count _ w (shl_small y (shift_count z)) f) left right v e
binary_gives count binary.Shr left right v e = on_numbers_value count (λ y z. Ok (Int (int_shr (to_int32 y) (shift_count z)))) (λ y z w f. int_value count _ w (shr_small (to_int32 y) (2 ^ shift_count z) (int32_fits y)) f) left right v e
binary_gives count binary.UShr left right v e = on_numbers_value count (λ y z. Ok (Int (pos (to_uint32 y / 2 ^ shift_count z)))) (λ y z w f. int_value count _ w (ushr_small y (2 ^ shift_count z)) f) left right v e
binary_gives count binary.Less left right v e = judged_value count (λ b. b) (less left right) v e
binary_gives count binary.Greater left right v e = judged_value count (λ b. b) (less right left) v e
binary_gives count binary.LessEqual left right v e = judged_value count not (less right left) v e
binary_gives count binary.GreaterEqual left right v e = judged_value count not (less left right) v e
binary_gives count binary.Same left right v e = truth_value count (same_value left right) v e
binary_gives count binary.NotSame left right v e = truth_value count (not (same_value left right)) v e

pub unary_gives : (count : ℕ) (op : UnaryOp) (value v : Value) → IsValue count value → unary_value op value ≡ Ok v → IsValue count v
unary_gives count unary.Plus value v h e =
    let is = gave (number_of value) (λ z. Ok (Int z)) v e in
    int_value count is.0 v (number_safe count value is.0 h is.1) is.2
unary_gives count unary.Minus value v h e =
    let is = gave (number_of value) (λ z. Ok (Int (neg_ℤ z))) v e in
    int_value count (neg_ℤ is.0) v (opposite_safe is.0 (number_safe count value is.0 h is.1)) is.2
unary_gives count unary.BitNot value v h e =
    let is = gave (number_of value) (λ z. Ok (Int (inverted (to_int32 z)))) v e in
    int_value count (inverted (to_int32 is.0)) v (inverted_small (to_int32 is.0) (int32_fits is.0)) is.2
unary_gives count unary.Not value v h e = truth_value count (not (truth_of value)) v e
