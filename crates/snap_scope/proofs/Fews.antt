-- The first few names of a scope: how one is found, and what one more leaves.
use Rattle.std.proofs.Common.{◌≡◌, inl, inr, ℕ, suc, ◌+◌, ◌<◌, ◌≤◌, Bool, true, false, cond, not, List, [], ◌∷◌, ◌++◌, map, take, drop, length, refl, sym, subst, ap, ◌∙◌, arith, length-append, position, OnErr}
use Rattle.std.specs.Prelude.{slice_get, get_or, Option, None, Some, Result, Ok, Err}
use Rattle.std.specs.List.{position_or_len}
use Rattle.std.specs.Option.{option_map}
use Rattle.std.specs.Str.{bytes_eq as text_eq}
use Rattle.std.proofs.lemmas.Bool.{cases_Bool, cases_lt}
use Rattle.std.proofs.lemmas.List.{length-map, map-append}
use Rattle.std.proofs.lemmas.Option.{get_or_from_slice_get, slice_get-map, slice_get-get_or, slice_get_within}
use Rattle.std.proofs.lemmas.Slice.Eq.{bytes_eq-Decides}
use Rattle.snap_ast.specs.Words.{Each}
use Rattle.snap_scope.proofs.Entries.{ended, here}
use Rattle.snap_scope.proofs.Levels.{each_by, each_more, map_same}
use Rattle.snap_scope.proofs.Visits.{between_end, between_left}
use Rattle.snap_scope.specs.Few.{IsSlotName, slot_at}
use Rattle.snap_scope.specs.declared.few.SlotName.{SlotName}
use Rattle.spec_scopes.proofs.InOrder.{first_at}
use Rattle.spec_scopes.specs.Scopes.{Slot}
use Rattle.spec_scopes.specs.Slots.{at_slot, nameless, place_in}
use Rattle.spec_scopes.specs.declared.place.SlotPlace.{SlotPlace}

abbrev same_name : List ℕ → Slot → Bool
same_name name slot = text_eq name slot.name

-- no slot before a place has the name
abbrev pub NotBefore : List Slot → List ℕ → ℕ → Type 0
NotBefore slots name before = (k : ℕ) (slot : Slot) → k < before → slice_get slots k ≡ Some slot → text_eq slot.name name ≡ false

turned : (a b : List ℕ) → text_eq a b ≡ false → text_eq b a ≡ false
turned a b e =
    elim (cases_Bool (text_eq b a)) as (λ _. text_eq b a ≡ false) [
      | inl same ↦ (let yes = (bytes_eq-Decides a b).1 (sym ((bytes_eq-Decides b a).0 same)) in absurd cc)
      | inr apart ↦ apart
    ]

-- the slot at a place
pub slot_here : (bytes : List ℕ) (names : List SlotName) (slots : List Slot) (i : ℕ) (d : SlotName) → map (slot_at bytes) names ≡ slots → i < length names → slice_get slots i ≡ Some (slot_at bytes (get_or names i d))
slot_here bytes names slots i d view below =
    ap (λ (l : List Slot). slice_get l i) (sym view) ∙ slice_get-map (slot_at bytes) names i ∙ ap (option_map (slot_at bytes)) (slice_get-get_or names i d below)

-- the first slot that has the name
pub found : (slots : List Slot) (name : List ℕ) (i : ℕ) (slot : Slot) → NotBefore slots name i → slice_get slots i ≡ Some slot → text_eq slot.name name ≡ true → ◌≡◌ {A = Option SlotPlace} (Some (record { hops = 0; slot = i; constant = slot.is_constant })) (place_in slots name)
found slots name i slot before at same =
    let yes : text_eq name slot.name ≡ true = (bytes_eq-Decides name slot.name).1 (sym ((bytes_eq-Decides slot.name name).0 same)) in
    let first : position_or_len (same_name name) slots ≡ i = first_at (same_name name) slots i slot at yes (λ k other less stands. turned other.name name (before k other less stands)) in
    let place : position (same_name name) slots ≡ Some i = here (same_name name) slots i first (slice_get_within slots i slot at) in
    sym (ap (option_map (at_slot slots)) place ∙ ap (λ (s : Slot). Some (record { hops = 0; slot = i; constant = s.is_constant })) (get_or_from_slice_get slots i slot nameless at))

none_at : (p : Slot → Bool) (slots : List Slot) → ((k : ℕ) (slot : Slot) → slice_get slots k ≡ Some slot → p slot ≡ false) → position_or_len p slots ≡ length slots
none_at p [] none = omega arith
none_at p (slot ∷ slots) none =
    let rest : position_or_len p slots ≡ length slots = none_at p slots (λ k other at. none (suc k) other at) in
    ap (λ (b : Bool). cond (not b) (1 + position_or_len p slots) 0) (none 0 slot refl) ∙ omega arith

-- none has it
pub lost : (slots : List Slot) (name : List ℕ) → NotBefore slots name (length slots) → ◌≡◌ {A = Option SlotPlace} None (place_in slots name)
lost slots name before =
    let none : position (same_name name) slots ≡ None = ended (same_name name) slots (none_at (same_name name) slots (λ k slot at. turned slot.name name (before k slot (slice_get_within slots k slot at) at))) in
    sym (ap (option_map (at_slot slots)) none)

-- one more has it not
pub not_more : (slots : List Slot) (name : List ℕ) (i : ℕ) (slot : Slot) → NotBefore slots name i → slice_get slots i ≡ Some slot → text_eq slot.name name ≡ false → NotBefore slots name (i + 1)
not_more slots name i slot before at apart = λ k other less stands.
    elim (cases_lt k i) as (λ _. text_eq other.name name ≡ false) [
      | inl earlier ↦ before k other earlier stands
      | inr not_earlier ↦ (let last : i ≡ k = omega arith in
          let here_too : slice_get slots i ≡ Some other = subst (λ (n : ℕ). slice_get slots n ≡ Some other) (sym last) stands in
          let same : slot ≡ other = cc in
          subst (λ (s : Slot). text_eq s.name name ≡ false) same apart)
    ]

-- ---- one more name

slots_stay : (bytes more : List ℕ) (names : List SlotName) → Each (IsSlotName (length bytes)) names → map (slot_at (bytes ++ more)) names ≡ map (slot_at bytes) names
slots_stay bytes more names each =
    map_same (slot_at (bytes ++ more)) (slot_at bytes) (IsSlotName (length bytes)) (λ name within. ap (λ (text : List ℕ). record { name = text; is_constant = name.is_constant }) (between_left bytes more name.first name.count within)) names each

module _ (bytes text after : List ℕ) (names : List SlotName) (slots : List Slot) (each : Each (IsSlotName (length bytes)) names) (view : map (slot_at bytes) names ≡ slots) (longer : after ≡ bytes ++ text) where
  pub none_added : (now : List SlotName) → now ≡ names → map (slot_at after) now ≡ slots
  none_added now e =
      ap (map (slot_at after)) e ∙ ap (λ (l : List ℕ). map (slot_at l) names) longer ∙ slots_stay bytes text names each ∙ view

  module _ (named : SlotName) (is_constant : Bool) (named_is : named ≡ record { first = length bytes; count = length text; is_constant = is_constant }) (now : List SlotName) (e : now ≡ names ++ named ∷ []) where
    one_is : slot_at (bytes ++ text) named ≡ record { name = text; is_constant = is_constant }
    one_is = ap (slot_at (bytes ++ text)) named_is ∙ ap (λ (l : List ℕ). record { name = l; is_constant = is_constant }) (between_end bytes text)

    pub one_added : map (slot_at after) now ≡ slots ++ record { name = text; is_constant = is_constant } ∷ []
    one_added =
        ap (map (slot_at after)) e ∙ ap (λ (l : List ℕ). map (slot_at l) (names ++ named ∷ [])) longer ∙ map-append (slot_at (bytes ++ text)) names (named ∷ [])
        ∙ ap (λ (l : List Slot). l ++ slot_at (bytes ++ text) named ∷ []) (slots_stay bytes text names each ∙ view) ∙ ap (λ (s : Slot). slots ++ s ∷ []) one_is

    pub each_added : Each (IsSlotName (length after)) now
    each_added =
        let long : length after ≡ length bytes + length text = ap (λ (l : List ℕ). length l) longer ∙ length-append bytes text in
        let first : named.first ≡ length bytes = ap (λ (n : SlotName). n.first) named_is in
        let count : named.count ≡ length text = ap (λ (n : SlotName). n.count) named_is in
        subst (Each (IsSlotName (length after))) (sym e)
        (each_more (IsSlotName (length after)) names named (each_by (IsSlotName (length bytes)) (IsSlotName (length after)) (λ name within. omega arith) names each) (omega arith))

pub on_err : {T E : Type 0} → {A : Type 0} → (result : Result T E) → A → OnErr result A
on_err (Ok x) h = tt
on_err (Err e) h = h

-- ---- the same, of the fields

module _ (bytes : List ℕ) (names : List SlotName) (slots : List Slot) (name : List ℕ) (view : map (slot_at bytes) names ≡ slots) (i : ℕ) (before : NotBefore slots name i) where
  pub lost_at : length names ≤ i → ◌≡◌ {A = Option SlotPlace} None (place_in slots name)
  lost_at past =
      let many : length slots ≡ length names = ap (λ (l : List Slot). length l) (sym view) ∙ length-map names (slot_at bytes) in
      lost slots name (λ k slot less at. before k slot (omega arith) at)

  module _ (d : SlotName) (below : i < length names) (text : List ℕ) (text_is : text ≡ take (get_or names i d).count (drop (get_or names i d).first bytes)) where
    pub found_at : text_eq text name ≡ true → ◌≡◌ {A = Option SlotPlace} (Some (record { hops = 0; slot = i; constant = (get_or names i d).is_constant })) (place_in slots name)
    found_at same = found slots name i (slot_at bytes (get_or names i d)) before (slot_here bytes names slots i d view below) (ap (λ (l : List ℕ). text_eq l name) (sym text_is) ∙ same)

    pub more_at : text_eq text name ≡ false → NotBefore slots name (i + 1)
    more_at apart = not_more slots name i (slot_at bytes (get_or names i d)) before (slot_here bytes names slots i d view below) (ap (λ (l : List ℕ). text_eq l name) (sym text_is) ∙ apart)

pub few_added : (bytes : List ℕ) (names now : List SlotName) (named : SlotName) (slots : List Slot) → map (slot_at bytes) names ≡ slots → now ≡ names ++ named ∷ [] → length slots < 16 → length now ≤ 16
few_added bytes names now named slots view e few =
    omega (arith, ap (λ (l : List SlotName). length l) e, length-append names (named ∷ []), ap (λ (l : List Slot). length l) view, length-map names (slot_at bytes))
