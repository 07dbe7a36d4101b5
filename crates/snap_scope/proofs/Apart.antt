-- Names of which no two are the same.
use Rattle.std.proofs.Common.{◌≡◌, ℕ, ◌+◌, ◌<◌, Bool, List, [], ◌∷◌, ◌++◌, map, length, get_or, take, sym, subst, ap, ◌∙◌, position}
use Rattle.std.specs.Prelude.{slice_get, Option, None, Some}
use Rattle.std.specs.Option.{option_map}
use Rattle.std.specs.Str.{bytes_eq as text_eq}
use Rattle.std.proofs.lemmas.List.{take_more, map-append}
use Rattle.std.proofs.lemmas.List.Folds.{list_any_at}
use Rattle.std.proofs.lemmas.List.Quantifiers.{position-Some}
use Rattle.std.proofs.lemmas.Option.{slice_get-map, slice_get_within, get_or_from_slice_get, slice_get-get_or}
use Rattle.snap_text.proofs.Places.{none_passes, position-map}
use Rattle.snap_scope.specs.Faults.{IsTold}
use Rattle.snap_scope.specs.Names.{IsDeclared, all_declared, declared_of}
use Rattle.snap_scope.specs.declared.names.Name.{Name}
use Rattle.spec_scopes.proofs.Firsts.{NoneBefore, first_is, none_more}
use Rattle.spec_scopes.specs.Names.{Declared}
use Rattle.spec_scopes.specs.Scopes.{Slot, slot_of}
use Rattle.spec_scopes.specs.Told.{first_repeat, only_if, repeat_at}
use Rattle.spec_scopes.specs.declared.fault.ScopeFault.{ScopeFault}
use Rattle.spec_scopes.specs.declared.fault.ScopeFault.TheVariants.{Duplicate, BadTarget, StrayJump, NoMemory}

abbrev same_name : List ℕ → Slot → Bool
same_name name slot = text_eq name slot.name

-- a declared name, as a test of those before it
abbrev equals : Declared → Declared → Bool
equals declared earlier = text_eq declared.named.name earlier.named.name

-- none of the names before a place repeats
abbrev pub AreApart : List Declared → ℕ → Type 0
AreApart names before = NoneBefore (repeat_at names) names before

place_among : (names : List Declared) (declared : Declared) (place : Option ℕ) → position (same_name declared.named.name) (map slot_of names) ≡ place → position (equals declared) names ≡ place
place_among names declared place e = sym (position-map slot_of (same_name declared.named.name) names) ∙ e

-- a name that no slot has does not repeat
is_new : (names : List Declared) (i : ℕ) (declared : Declared) → position (same_name declared.named.name) (map slot_of (take i names)) ≡ None → repeat_at names i declared ≡ None
is_new names i declared e =
    ap (λ (b : Bool). only_if b (Duplicate declared.named.at)) (none_passes (equals declared) (take i names) (place_among (take i names) declared None e))

-- a name that a slot has does
is_repeat : (names : List Declared) (i n : ℕ) (declared : Declared) → position (same_name declared.named.name) (map slot_of (take i names)) ≡ Some n → repeat_at names i declared ≡ Some (Duplicate declared.named.at)
is_repeat names i n declared e =
    let at = position-Some (equals declared) (take i names) n declared (place_among (take i names) declared (Some n) e) in
    ap (λ (b : Bool). only_if b (Duplicate declared.named.at)) (list_any_at (equals declared) (take i names) n declared at.0 at.1)

-- the name at a place of the code's list
at_place : (names : List Name) (i : ℕ) (name : Name) → i < length names → name ≡ get_or names i name → slice_get (all_declared names) i ≡ Some (declared_of name)
at_place names i name below e = slice_get-map declared_of names i ∙ ap (option_map declared_of) (slice_get-get_or names i name below ∙ ap Some (sym e))

take_one : (names : List Declared) (i : ℕ) (declared : Declared) → slice_get names i ≡ Some declared → take (i + 1) names ≡ take i names ++ declared ∷ []
take_one names i declared e = take_more names i declared (slice_get_within names i declared e) ∙ ap (λ (d : Declared). take i names ++ d ∷ []) (get_or_from_slice_get names i declared declared e)

-- one more name has its slot
pub slots_more : (names : List Name) (i : ℕ) (name : Name) (old new : List Slot) → i < length names → name ≡ get_or names i name → old ≡ map slot_of (take i (all_declared names)) → new ≡ old ++ slot_of (declared_of name) ∷ [] → new ≡ map slot_of (take (i + 1) (all_declared names))
slots_more names i name old new below e before after =
    after ∙ ap (λ (slots : List Slot). slots ++ slot_of (declared_of name) ∷ []) before
    ∙ sym (ap (map slot_of) (take_one (all_declared names) i (declared_of name) (at_place names i name below e)) ∙ map-append slot_of (take i (all_declared names)) (declared_of name ∷ []))

-- and does not repeat
pub names_more : (names : List Name) (i : ℕ) (name : Name) (old : List Slot) → i < length names → name ≡ get_or names i name → old ≡ map slot_of (take i (all_declared names)) → AreApart (all_declared names) i → position (same_name (declared_of name).named.name) old ≡ None → AreApart (all_declared names) (i + 1)
names_more names i name old below e before apart none =
    none_more (repeat_at (all_declared names)) (all_declared names) i (declared_of name) apart (at_place names i name below e)
    (is_new (all_declared names) i (declared_of name) (subst (λ (slots : List Slot). position (same_name (declared_of name).named.name) slots ≡ None) before none))

refused_as : (names : List Declared) (i : ℕ) (declared : Declared) (slots : List Slot) (fault : ScopeFault) → slice_get names i ≡ Some declared → slots ≡ map slot_of (take i names) → AreApart names i → IsDeclared slots declared fault → IsTold (first_repeat names) fault
refused_as names i declared slots (Duplicate at) e before apart h =
    first_is (repeat_at names) names i declared e apart (Duplicate at)
    (is_repeat names i h.1 declared (subst (λ (slots : List Slot). position (same_name declared.named.name) slots ≡ Some h.1) before h.2) ∙ ap (λ (n : ℕ). Some (Duplicate n)) (sym h.0))
refused_as names i declared slots (BadTarget at) e before apart h = absurd h
refused_as names i declared slots (StrayJump at) e before apart h = absurd h
refused_as names i declared slots NoMemory e before apart h = tt

-- what is refused at a place is the first name that repeats
pub refused : (names : List Name) (i : ℕ) (name : Name) (slots : List Slot) (fault : ScopeFault) → i < length names → name ≡ get_or names i name → slots ≡ map slot_of (take i (all_declared names)) → AreApart (all_declared names) i → IsDeclared slots (declared_of name) fault → IsTold (first_repeat (all_declared names)) fault
refused names i name slots fault below e before apart h = refused_as (all_declared names) i (declared_of name) slots fault (at_place names i name below e) before apart h
