-- Slots behind the first few.
use Rattle.std.proofs.Common.{◌≡◌, ℕ, zero, suc, ◌+◌, ◌<◌, ◌≤◌, Bool, true, false, cond, not, List, [], ◌∷◌, ◌++◌, length, refl, sym, ap, ◌∙◌, ⊎_elim, arith, append_assoc, position}
use Rattle.std.specs.Prelude.{get_or, Option, None, Some}
use Rattle.std.specs.List.{position_or_len}
use Rattle.std.specs.Option.{is_some, option_map}
use Rattle.std.specs.Str.{bytes_eq as text_eq}
use Rattle.std.proofs.lemmas.Bool.{cases_lt}
use Rattle.std.proofs.lemmas.List.{get_or_append_left}
use Rattle.std.proofs.lemmas.List.Sums.{prefix_len-le-length}
use Rattle.snap_scope.proofs.Entries.{ended, here}
use Rattle.snap_scope.specs.Names.{Adds}
use Rattle.spec_scopes.specs.Scopes.{Slot}
use Rattle.spec_scopes.specs.Slots.{at_slot, nameless, place_in}
use Rattle.spec_scopes.specs.declared.place.SlotPlace.{SlotPlace}

abbrev same_name : List ℕ → Slot → Bool
same_name name slot = text_eq name slot.name

-- ---- the first that passes, in a list behind another

module _ {X : Type 0} (p : X → Bool) where
  most : (xs : List X) → position_or_len p xs ≤ length xs
  most xs = prefix_len-le-length (λ (x : X). not (p x)) xs

  placed : (xs : List X) (n : ℕ) → position p xs ≡ Some n → (position_or_len p xs ≡ n) × (n < length xs)
  placed xs n e =
      ⊎_elim
      (λ (below : position_or_len p xs < length xs).
      let it : position p xs ≡ Some (position_or_len p xs) = here p xs (position_or_len p xs) refl below in
      let same : position_or_len p xs ≡ n = cc in
      (same, omega arith))
      (λ (above : length xs ≤ position_or_len p xs).
      let none : position p xs ≡ None = ended p xs (omega (arith, most xs)) in
      absurd cc)
      (cases_lt (position_or_len p xs) (length xs))

  unplaced : (xs : List X) → position p xs ≡ None → position_or_len p xs ≡ length xs
  unplaced xs e =
      ⊎_elim
      (λ (below : position_or_len p xs < length xs).
      let it : position p xs ≡ Some (position_or_len p xs) = here p xs (position_or_len p xs) refl below in
      absurd cc)
      (λ (above : length xs ≤ position_or_len p xs). omega (arith, most xs))
      (cases_lt (position_or_len p xs) (length xs))

  behind : (xs ys : List X) → (position_or_len p xs < length xs → position_or_len p (xs ++ ys) ≡ position_or_len p xs) × (position_or_len p xs ≡ length xs → position_or_len p (xs ++ ys) ≡ length xs + position_or_len p ys)
  behind [] ys = (λ less. absurd (omega arith), λ end. omega arith)
  behind (x ∷ xs) ys = by (not (p x)) (position_or_len p xs) (position_or_len p (xs ++ ys)) (behind xs ys)
    where
      by : (b : Bool) (m k : ℕ) → (m < length xs → k ≡ m) × (m ≡ length xs → k ≡ length xs + position_or_len p ys)
          → (cond b (1 + m) 0 < length (x ∷ xs) → cond b (1 + k) 0 ≡ cond b (1 + m) 0) × (cond b (1 + m) 0 ≡ length (x ∷ xs) → cond b (1 + k) 0 ≡ length (x ∷ xs) + position_or_len p ys)
      by true m k h = (λ less. let e : k ≡ m = h.0 (omega arith) in omega arith, λ end. let e : k ≡ length xs + position_or_len p ys = h.1 (omega arith) in omega arith)
      by false m k h = (λ less. refl, λ end. absurd (omega arith))

  longer : (xs ys : List X) → length (xs ++ ys) ≡ length xs + length ys
  longer [] ys = omega arith
  longer (x ∷ xs) ys = let rest = longer xs ys in omega arith

  first_stays : (xs ys : List X) (n : ℕ) → position p xs ≡ Some n → position p (xs ++ ys) ≡ Some n
  first_stays xs ys n e =
      let it = placed xs n e in
      here p (xs ++ ys) n ((behind xs ys).0 (omega (arith, it.0, it.1)) ∙ it.0) (omega (arith, it.1, longer xs ys))

  first_behind : (xs ys : List X) (n : ℕ) → position p xs ≡ None → position p ys ≡ Some n → position p (xs ++ ys) ≡ Some (length xs + n)
  first_behind xs ys n none e =
      let it = placed ys n e in
      here p (xs ++ ys) (length xs + n) ((behind xs ys).1 (unplaced xs none) ∙ ap (λ (m : ℕ). length xs + m) it.0) (omega (arith, it.1, longer xs ys))

  none_behind : (xs ys : List X) → position p xs ≡ None → position p ys ≡ None → position p (xs ++ ys) ≡ None
  none_behind xs ys none e =
      ended p (xs ++ ys) (omega (arith, (behind xs ys).1 (unplaced xs none), unplaced ys e, longer xs ys))

get_right : {X : Type 0} → (xs ys : List X) (d : X) (m n : ℕ) → m ≡ length xs + n → get_or (xs ++ ys) m d ≡ get_or ys n d
get_right [] ys d m n e = let same : m ≡ n = omega arith in ap (λ (k : ℕ). get_or ys k d) same
get_right (x ∷ xs) ys d zero n e = absurd (omega arith)
get_right (x ∷ xs) ys d (suc m) n e = get_right xs ys d m n (omega arith)

-- ---- places

no_map : {A B : Type 0} → (f : A → B) (found : Option A) → None ≡ option_map f found → found ≡ None
no_map f None e = refl
no_map f (Some x) e = absurd cc

some_map : {A B : Type 0} → (f : A → B) (found : Option A) (y : B) → Some y ≡ option_map f found → (x : A) × (found ≡ Some x) × (y ≡ f x)
some_map f None y e = absurd cc
some_map f (Some x) y e = (x, refl, cc)

pub none_few : (few : List Slot) (name : List ℕ) → None ≡ place_in few name → position (same_name name) few ≡ None
none_few few name e = no_map (at_slot few) (position (same_name name) few) e

-- a place, in a list behind so many slots
abbrev pub shifted : ℕ → SlotPlace → SlotPlace
shifted count place = record { hops = place.hops; slot = count + place.slot; constant = place.constant }

pub found_few : (few many slots : List Slot) (name : List ℕ) (place : SlotPlace) → few ++ many ≡ slots → Some place ≡ place_in few name → Some place ≡ place_in slots name
found_few few many slots name place view e =
    let it = some_map (at_slot few) (position (same_name name) few) place e in
    let below = (placed (same_name name) few it.0 it.1).1 in
    let at : position (same_name name) slots ≡ Some it.0 = ap (position (same_name name)) (sym view) ∙ first_stays (same_name name) few many it.0 it.1 in
    let slot : get_or slots it.0 nameless ≡ get_or few it.0 nameless = ap (λ (l : List Slot). get_or l it.0 nameless) (sym view) ∙ get_or_append_left few many nameless it.0 below in
    ap Some (it.2 ∙ ap (λ (s : Slot). record { hops = 0; slot = it.0; constant = s.is_constant }) (sym slot)) ∙ sym (ap (option_map (at_slot slots)) at)

pub found_many : (few many slots : List Slot) (name : List ℕ) (place : SlotPlace) → few ++ many ≡ slots → None ≡ place_in few name → Some place ≡ place_in many name → Some (shifted (length few) place) ≡ place_in slots name
found_many few many slots name place view none e =
    let it = some_map (at_slot many) (position (same_name name) many) place e in
    let at : position (same_name name) slots ≡ Some (length few + it.0) = ap (position (same_name name)) (sym view) ∙ first_behind (same_name name) few many it.0 (none_few few name none) it.1 in
    let slot : get_or slots (length few + it.0) nameless ≡ get_or many it.0 nameless = ap (λ (l : List Slot). get_or l (length few + it.0) nameless) (sym view) ∙ get_right few many nameless (length few + it.0) it.0 refl in
    ap (λ (p : SlotPlace). Some (shifted (length few) p)) it.2 ∙ ap (λ (s : Slot). Some (record { hops = 0; slot = length few + it.0; constant = s.is_constant })) (sym slot) ∙ sym (ap (option_map (at_slot slots)) at)

pub found_none : (few many slots : List Slot) (name : List ℕ) → few ++ many ≡ slots → None ≡ place_in few name → None ≡ place_in many name → ◌≡◌ {A = Option SlotPlace} None (place_in slots name)
found_none few many slots name view none e =
    let at : position (same_name name) slots ≡ None = ap (position (same_name name)) (sym view) ∙ none_behind (same_name name) few many (none_few few name none) (none_few many name e) in
    sym (ap (option_map (at_slot slots)) at)

-- ---- one more name

pub adds_old : (few many slots : List Slot) (name : List ℕ) (is_constant : Bool) (new : List Slot) (found : Option SlotPlace) → few ++ many ≡ slots → found ≡ place_in few name → is_some found ≡ true → Adds name is_constant slots false new
adds_old few many slots name is_constant new None view e some = absurd cc
adds_old few many slots name is_constant new (Some place) view e some =
    let it = some_map (at_slot few) (position (same_name name) few) place e in
    (it.0, ap (position (same_name name)) (sym view) ∙ first_stays (same_name name) few many it.0 it.1)

-- where none is found, there is none
pub is_none : (found place : Option SlotPlace) → found ≡ place → is_some found ≡ false → None ≡ place
is_none None place e none = e
is_none (Some found) place e none = absurd cc

pub adds_many : (few many slots more : List Slot) (name : List ℕ) (is_constant is_new : Bool) → few ++ many ≡ slots → None ≡ place_in few name → Adds name is_constant many is_new more → Adds name is_constant slots is_new (few ++ more)
adds_many few many slots more name is_constant true view none adds =
    (ap (position (same_name name)) (sym view) ∙ none_behind (same_name name) few many (none_few few name none) adds.0, ap (λ (l : List Slot). few ++ l) adds.1 ∙ sym (append_assoc few many (record { name = name; is_constant = is_constant } ∷ [])) ∙ ap (λ (l : List Slot). l ++ record { name = name; is_constant = is_constant } ∷ []) view)
adds_many few many slots more name is_constant false view none adds =
    (length few + adds.0, ap (position (same_name name)) (sym view) ∙ first_behind (same_name name) few many adds.0 (none_few few name none) adds.1)
