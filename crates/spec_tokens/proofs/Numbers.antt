-- What digits stand for.
use Rattle.std.proofs.Common.{◌≡◌, ℕ, ◌+◌, ◌*◌, ◌<◌, ◌≤◌, List, [], ◌∷◌, length, drop, get_or, arith}
use Rattle.std.proofs.Math.Nat.{mul-le-mul_left}
use Rattle.std.proofs.lemmas.List.{at_drop_more}
use Rattle.spec_tokens.specs.Number.{value_from, digit_value}

-- more digits stand for no less
pub value_from-least : (base start : ℕ) (digits : List ℕ) → 0 < base → start ≤ value_from base start digits
unfolding value_from
value_from-least base start [] positive = omega arith
value_from-least base start (d ∷ digits) positive =
    let more = value_from-least base (start * base + digit_value d) digits positive in
    omega (arith, mul-le-mul_left start positive, more)

-- one digit on
pub value_from-drop : (base start : ℕ) (digits : List ℕ) (i : ℕ) → i < length digits → value_from base start (drop i digits) ≡ value_from base (start * base + digit_value (get_or digits i 0)) (drop (i + 1) digits)
unfolding value_from
value_from-drop base start digits i inside = at_drop_more (value_from base start) digits i 0 inside
