-- The entries of a table of names, as slots.
use Rattle.std.proofs.Common.{◌≡◌, ℕ, zero, suc, ◌<◌, ◌≤◌, Bool, true, false, not, ◌||◌, if◌then◌else◌, nat_eq, List, [], ◌∷◌, ◌++◌, map, length, get_or, refl, sym, ap, ◌∙◌, ⊎_elim, arith, Vec, Global, position}
use Rattle.std.specs.Prelude.{slice_get, Option, None, Some}
use Rattle.std.specs.Option.{option_map}
use Rattle.std.specs.List.{list_any, position_or_len}
use Rattle.std.specs.Map.{keys_of}
use Rattle.std.specs.Str.{bytes_eq as text_eq}
use Rattle.std.proofs.lemmas.Bool.{both_ways, cases_lt, eq-eqb, eqb-true, le-ltb, lt-ltb}
use Rattle.std.proofs.lemmas.List.{length-map, map-append}
use Rattle.std.proofs.lemmas.List.Sums.{prefix_len-le-length}
use Rattle.indexmap.specs.IndexMap.{insert_entry}
use Rattle.snap_scope.specs.Names.{Adds}
use Rattle.snap_text.proofs.Places.{none_passes, position-map}
use Rattle.spec_scopes.specs.Scopes.{Slot}
use Rattle.spec_scopes.specs.Slots.{at_slot, nameless, place_in}
use Rattle.spec_scopes.specs.declared.place.SlotPlace.{SlotPlace}

abbrev pub Entry : Type 0
Entry = Vec ℕ Global × Bool

abbrev pub slot_of : Entry → Slot
slot_of entry = record { name = entry.0.items; is_constant = entry.1 }

-- a name has its place among the keys
pub place_of_key : (entries : List Entry) (slots : List Slot) (name : List ℕ) (place : Option ℕ) → map slot_of entries ≡ slots → place ≡ position (λ key. text_eq name key.items) (keys_of entries) → position (λ slot. text_eq name slot.name) slots ≡ place
place_of_key entries slots name place view e =
    ap (λ (xs : List Slot). position (λ slot. text_eq name slot.name) xs) (sym view) ∙ position-map slot_of (λ slot. text_eq name slot.name) entries
    ∙ sym (position-map (λ (entry : Entry). entry.0) (λ key. text_eq name key.items) entries) ∙ sym e

got_map : (entries : List Entry) (n : ℕ) (entry : Entry) (d : Slot) → slice_get entries n ≡ Some entry → get_or (map slot_of entries) n d ≡ slot_of entry
got_map [] n entry d e = absurd cc
got_map (x ∷ xs) zero entry d e = let same : x ≡ entry = cc in ap slot_of same
got_map (x ∷ xs) (suc n) entry d e = got_map xs n entry d e

-- the place of a name that is found
pub found : (entries : List Entry) (slots : List Slot) (name : List ℕ) (n : ℕ) (key : Vec ℕ Global) (is_constant : Bool) → map slot_of entries ≡ slots → Some n ≡ position (λ key. text_eq name key.items) (keys_of entries) → slice_get entries n ≡ Some (key, is_constant)
    → ◌≡◌ {A = Option SlotPlace} (Some (record { hops = 0; slot = n; constant = is_constant })) (place_in slots name)
found entries slots name n key is_constant view e at =
    let slot : get_or slots n nameless ≡ slot_of (key, is_constant) = ap (λ (xs : List Slot). get_or xs n nameless) (sym view) ∙ got_map entries n (key, is_constant) nameless at in
    sym (ap (option_map (at_slot slots)) (place_of_key entries slots name (Some n) view e) ∙ ap (λ (slot : Slot). Some (record { hops = 0; slot = n; constant = slot.is_constant })) slot)

-- a name that is not among the keys has no place
pub lost : (entries : List Entry) (slots : List Slot) (name : List ℕ) → map slot_of entries ≡ slots → None ≡ position (λ key. text_eq name key.items) (keys_of entries) → ◌≡◌ {A = Option SlotPlace} None (place_in slots name)
lost entries slots name view e = ap (option_map (at_slot slots)) (sym (place_of_key entries slots name None view e))

-- a key that no entry has goes last
passes_none : (b rest : Bool) → (b || rest) ≡ false → (b ≡ false) × (rest ≡ false)
passes_none true rest e = absurd cc
passes_none false rest e = (refl, e)

insert_last : (eq : Vec ℕ Global → Vec ℕ Global → Bool) (entries : List Entry) (key : Vec ℕ Global) (is_constant : Bool) → list_any (λ entry. eq key entry.0) entries ≡ false → insert_entry eq entries key is_constant ≡ entries ++ (key, is_constant) ∷ []
insert_last eq [] key is_constant none = refl
insert_last eq (entry ∷ entries) key is_constant none =
    let none_of = passes_none (eq key entry.0) (list_any (λ entry. eq key entry.0) entries) none in
    ap (λ (b : Bool). if b then (entry.0, is_constant) ∷ entries else entry ∷ insert_entry eq entries key is_constant) none_of.0 ∙ ap (λ (xs : List Entry). entry ∷ xs) (insert_last eq entries key is_constant none_of.1)

added : (entries after : List Entry) (slots : List Slot) (name : List ℕ) (key : Vec ℕ Global) (is_constant : Bool) → map slot_of entries ≡ slots → position (λ slot. text_eq name slot.name) slots ≡ None → key.items ≡ name
    → after ≡ insert_entry (λ x y. text_eq x.items y.items) entries key is_constant → map slot_of after ≡ slots ++ record { name = name; is_constant = is_constant } ∷ []
added entries after slots name key is_constant view none same e =
    let apart : position (λ (entry : Entry). text_eq key.items entry.0.items) entries ≡ None =
    sym (position-map slot_of (λ slot. text_eq key.items slot.name) entries) ∙ ap (position (λ (slot : Slot). text_eq key.items slot.name)) view ∙ ap (λ (text : List ℕ). position (λ (slot : Slot). text_eq text slot.name) slots) same ∙ none in
    let last : after ≡ entries ++ (key, is_constant) ∷ [] = e ∙ insert_last (λ x y. text_eq x.items y.items) entries key is_constant (none_passes (λ (entry : Entry). text_eq key.items entry.0.items) entries apart) in
    ap (map slot_of) last ∙ map-append slot_of entries ((key, is_constant) ∷ []) ∙ cc

pub here : {X : Type 0} (p : X → Bool) (xs : List X) (n : ℕ) → position_or_len p xs ≡ n → n < length xs → position p xs ≡ Some n
here p xs n e h = rw (e, lt-ltb n (length xs) h) refl

pub ended : {X : Type 0} (p : X → Bool) (xs : List X) → position_or_len p xs ≡ length xs → position p xs ≡ None
ended p xs e = rw (e, le-ltb (length xs) (length xs) (omega arith)) refl

-- a name that is put where the entries end was not there, and one that is put before was
pub adds : (entries after : List Entry) (slots : List Slot) (name : List ℕ) (key : Vec ℕ Global) (is_constant : Bool) (place count : ℕ) (is_new : Bool) → nat_eq place count ≡ is_new → map slot_of entries ≡ slots → key.items ≡ name
    → place ≡ position_or_len (λ other. text_eq key.items other.items) (keys_of entries) → count ≡ length entries → after ≡ insert_entry (λ x y. text_eq x.items y.items) entries key is_constant
    → Adds name is_constant slots is_new (map slot_of after)
adds entries after slots name key is_constant place count true e view same at counted made =
    let test : Vec ℕ Global → Bool = λ other. text_eq name other.items in
    let at_name : place ≡ position_or_len test (keys_of entries) = at ∙ ap (λ (text : List ℕ). position_or_len (λ (other : Vec ℕ Global). text_eq text other.items) (keys_of entries)) same in
    let many : length (keys_of entries) ≡ length entries = length-map entries (λ (entry : Entry). entry.0) in
    let none : position test (keys_of entries) ≡ None = ended test (keys_of entries) (omega (arith, at_name, counted, eqb-true place count e, many)) in
    let lacks = place_of_key entries slots name None view (sym none) in
    (lacks, added entries after slots name key is_constant view lacks same made)
adds entries after slots name key is_constant place count false e view same at counted made =
    let test : Vec ℕ Global → Bool = λ other. text_eq name other.items in
    let at_name : place ≡ position_or_len test (keys_of entries) = at ∙ ap (λ (text : List ℕ). position_or_len (λ (other : Vec ℕ Global). text_eq text other.items) (keys_of entries)) same in
    let many : length (keys_of entries) ≡ length entries = length-map entries (λ (entry : Entry). entry.0) in
    let most : position_or_len test (keys_of entries) ≤ length (keys_of entries) = prefix_len-le-length (λ (other : Vec ℕ Global). not (test other)) (keys_of entries) in
    ⊎_elim
    (λ (below : place < count). (place, place_of_key entries slots name (Some place) view (sym (here test (keys_of entries) place (sym at_name) (omega (arith, counted, many, below))))))
    (λ (above : count ≤ place). absurd (both_ways (nat_eq place count) e (eq-eqb place count (omega (arith, at_name, counted, many, most, above)))))
    (cases_lt place count)
