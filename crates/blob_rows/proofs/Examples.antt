-- Strings of one unit each, in the order of their units.
use Rattle.std.proofs.Common.{◌≡◌, ℕ, zero, suc, ◌+◌, ◌<◌, List, [], ◌∷◌, ◌++◌, map, Contains, refl, sym, ◌∙◌, subst, arith}
use Rattle.std.specs.List.{range_with_len}
use Rattle.std.proofs.lemmas.Bool.{lt-ltb}
use Rattle.std.proofs.lemmas.List.FromFn.{get_or-map-range_with_len, length-map-range_with_len, map-range_with_len_more}
use Rattle.spec_format.specs.Strings.{IsBelow, IsAscending}

-- one unit is below the next
next_above : (unit : ℕ) → IsBelow (unit ∷ []) ((unit + 1) ∷ [])
next_above unit = rw (lt-ltb unit (unit + 1) (omega arith)) refl

-- so many strings, from a unit on
abbrev pub one_unit_strings : ℕ → ℕ → List (List ℕ)
one_unit_strings from count = map (λ unit. unit ∷ []) (range_with_len from count)

-- they ascend
units_ascend : (from count : ℕ) → IsAscending (one_unit_strings from count)
units_ascend from zero = tt
units_ascend from (suc zero) = tt
units_ascend from (suc (suc count)) = (next_above from, units_ascend (from + 1) (suc count))

-- strings that are these ascend
pub ascending_units : (strings : List (List ℕ)) (count : ℕ) → strings ≡ one_unit_strings 0 count → IsAscending strings
ascending_units strings count e = subst IsAscending (sym e) (units_ascend 0 count)

-- each of the units is one of them
pub unit_among : (strings : List (List ℕ)) (unit count : ℕ) → strings ≡ one_unit_strings 0 count → unit < count → Contains strings (unit ∷ [])
unit_among strings unit count e inside =
    let f : ℕ → List ℕ = λ unit. unit ∷ [] in
    let P : List (List ℕ) → Type 0 = λ some. Contains some (unit ∷ []) in
    subst P (sym e) (unit, omega (arith, length-map-range_with_len f 0 count), get_or-map-range_with_len f 0 count unit unit (unit ∷ []) inside (omega arith))

-- one more string
pub one_unit_more : (strings more : List (List ℕ)) (text : List ℕ) (unit : ℕ) → strings ≡ one_unit_strings 0 unit → text ≡ unit ∷ [] → more ≡ strings ++ text ∷ [] → more ≡ one_unit_strings 0 (unit + 1)
one_unit_more strings more text unit e f g = g ∙ rw (e, f) (sym (map-range_with_len_more (λ unit. unit ∷ []) 0 unit unit (omega arith)))
