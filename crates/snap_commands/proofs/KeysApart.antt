-- No key stands twice in what a context section denotes.
use Rattle.std.proofs.Common.{◌≡◌, ◌≢◌, ℕ, ◌+◌, ◌-◌, ◌<◌, ◌≤◌, AllPairs, Contains, List, [], ◌∷◌, ◌++◌, length, get_or, map, Option, Some, sym, ap, subst, ◌∙◌, ⊎_elim, arith, length-append}
use Rattle.std.specs.Prelude.{slice_get}
use Rattle.std.proofs.Math.ListN.{get_or-append}
use Rattle.std.proofs.Math.Seq.{get_or-append_right}
use Rattle.std.proofs.lemmas.Bool.{cases_lt}
use Rattle.std.proofs.lemmas.List.{get_or_default, get_or-append-add, get_or-map, length-map}
use Rattle.std.proofs.lemmas.Option.{get_or_from_slice_get, slice_get_within}
use Rattle.spec_format.specs.Shapes.{AreLawful, Child, HasKeys, Root}
use Rattle.spec_format.specs.Strings.{IsAscending}
use Rattle.spec_sections.specs.Global.{text_number}
use Rattle.spec_sections.specs.Properties.{DenotesGlobal}
use Rattle.snap_ctxfmt.proofs.Places.{number_of_place}
use Rattle.snap_graph.specs.declared.value.Property.{Property}
use Rattle.snap_commands.specs.Kept.{AreApart}
use Rattle.snap_commands.specs.Properties.{properties_of}
use Rattle.snap_commands.specs.Thin.{Globals}
use Rattle.snap_commands.specs.ThinSource.{own_names}
use Rattle.snap_commands.proofs.FreeNames.{keys_of_object}
use Rattle.snap_graph.specs.declared.value.Value.TheVariants.{Undefined}

-- an element that none of some others is, behind these
apart_push : (xs : List ℕ) (x : ℕ) → AllPairs (λ a b. a ≢ b) xs → (Contains xs x → ⊥) → AllPairs (λ a b. a ≢ b) (xs ++ x ∷ [])
apart_push xs x apart new i j d before inside same =
    let len : length (xs ++ x ∷ []) ≡ length xs + 1 = length-append xs (x ∷ []) in
    let low : get_or (xs ++ x ∷ []) i d ≡ get_or xs i d = get_or-append xs (x ∷ []) d i (omega arith) in
    ⊎_elim
    (λ (lt : j < length xs). apart i j d before lt (sym low ∙ same ∙ get_or-append xs (x ∷ []) d j lt))
    (λ (le : length xs ≤ j).
    let at : j - length xs ≡ 0 = omega arith in
    let last : get_or (xs ++ x ∷ []) j d ≡ x = get_or-append_right xs (x ∷ []) j d le ∙ ap (λ (k : ℕ). get_or (x ∷ []) k d) at in
    let within : i < length xs = omega arith in
    new (i, within, get_or_default xs i x d within ∙ sym low ∙ same ∙ last))
    (cases_lt j (length xs))

-- no name stands twice among the keys of a lawful shape
names_apart : (strings : ℕ) (shapes : List (ℕ × ℕ)) (shape : ℕ) (names : List ℕ) → AreLawful strings shapes → HasKeys shapes shape names → AllPairs (λ a b. a ≢ b) names
names_apart strings shapes shape names lawful Root = λ i j d before inside same. absurd (omega (arith, inside))
names_apart strings shapes shape names lawful (Child n parent name keys e has) =
    apart_push keys name (names_apart strings shapes parent keys lawful has) (lawful.fresh n parent name keys e has)

-- the string of a number has that number
number_is : (strings : List (List ℕ)) (n : ℕ) (text : List ℕ) → IsAscending strings → slice_get strings n ≡ Some text → text_number strings text ≡ n
number_is strings n text up e =
    ap (text_number strings) (sym (get_or_from_slice_get strings n text [] e)) ∙ number_of_place strings n up (slice_get_within strings n text e)

-- a property's key is the string of its name
pub key_at : (strings : List (List ℕ)) (names : List ℕ) (properties : List Property) (i : ℕ) (p : Property) → map (λ p. Some p.key) properties ≡ map (slice_get strings) names → i < length properties
    → slice_get strings (get_or names i 0) ≡ Some (get_or properties i p).key
key_at strings names properties i p e inside =
    let K : Property → Option (List ℕ) = λ p. Some p.key in
    let len : length properties ≡ length names = sym (length-map properties K) ∙ ap length e ∙ length-map names (slice_get strings) in
    sym (get_or-map (slice_get strings) names i 0 (Some []) (omega arith)) ∙ ap (λ (xs : List (Option (List ℕ))). get_or xs i (Some [])) (sym e) ∙ get_or-map K properties i p (Some []) inside

-- the keys of what a section denotes differ
pub keys_apart : (strings : List (List ℕ)) (shapes : List (ℕ × ℕ)) (section : List ℕ) (properties : List Property) → IsAscending strings → AreLawful (length strings) shapes
    → DenotesGlobal strings shapes section properties → AllPairs (λ a b. a ≢ b) (map (λ p. p.key) properties)
keys_apart strings shapes section properties up lawful denotes i j d before inside same =
    let K : Property → List ℕ = λ p. p.key in
    let p : Property = record { key = d; value = Undefined } in
    let names = denotes.names in
    let keys = denotes.are_properties.keys in
    let len : length properties ≡ length names = sym (length-map properties (λ (q : Property). Some q.key)) ∙ ap length keys ∙ length-map names (slice_get strings) in
    let right : j < length properties = omega (arith, length-map properties K) in
    let left : i < length properties = omega arith in
    let one = number_is strings (get_or names i 0) (get_or properties i p).key up (key_at strings names properties i p keys left) in
    let other = number_is strings (get_or names j 0) (get_or properties j p).key up (key_at strings names properties j p keys right) in
    let texts : (get_or properties i p).key ≡ (get_or properties j p).key = sym (get_or-map K properties i p d left) ∙ same ∙ get_or-map K properties j p d right in
    names_apart (length strings) shapes denotes.shape names lawful denotes.has_keys i j 0 before (omega (arith, len)) (sym one ∙ ap (text_number strings) texts ∙ other)

-- what stands behind others is apart where all is
apart_rest : (front xs : List (List ℕ)) → AllPairs (λ a b. a ≢ b) (front ++ xs) → AllPairs (λ a b. a ≢ b) xs
apart_rest front xs apart i j d before inside same =
    apart (length front + i) (length front + j) d (omega arith) (omega (arith, length-append front xs)) (get_or-append-add front xs i d ∙ same ∙ sym (get_or-append-add front xs j d))

-- and so no global stands twice
pub globals_apart : (globals : Globals) → AllPairs (λ a b. a ≢ b) (map (λ p. p.key) (properties_of globals)) → AreApart globals
globals_apart globals apart = apart_rest own_names (map (λ g. g.0) globals) (subst (AllPairs (λ a b. a ≢ b)) (keys_of_object globals) apart)
