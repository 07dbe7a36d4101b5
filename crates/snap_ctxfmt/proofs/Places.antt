-- Strings that ascend, and the place of a text among them.
use Rattle.std.proofs.Common.{◌≡◌, ℕ, zero, suc, ◌+◌, ◌<◌, ◌≤◌, Bool, List, [], ◌∷◌, ◌++◌, length, get_or, Option, Some, None, Result, Ok, Err, Contains, position, sym, refl, ap, subst, ◌∙◌, ⊎_elim, arith}
use Rattle.std.specs.Cmp.Lexicographic.{slice_cmp}
use Rattle.std.specs.List.{HoldsAt, position_or_len}
use Rattle.std.specs.List.Sorted.{IsBinarySearchResult, IsSearchInRange, IsSortedBy}
use Rattle.std.specs.Option.{IsSome, unwrap_or}
use Rattle.std.specs.Ordering.{nat_cmp, is_lt, is_eq, ordering_reverse}
use Rattle.std.specs.Result.{result_ok}
use Rattle.std.specs.Str.{bytes_eq}
use Rattle.std.specs.declared.cmp.Ordering.{Ordering}
use Rattle.std.specs.declared.cmp.Ordering.TheVariants.{Less, Equal, Greater}
use Rattle.std.proofs.lemmas.Bool.{lt-ltb, le-ltb, cases_lt}
use Rattle.std.proofs.lemmas.Cmp.{nat_list_cmp_total}
use Rattle.std.proofs.lemmas.List.{get_or_default}
use Rattle.std.proofs.lemmas.List.Sorted.{searchable_from_sorted}
use Rattle.std.proofs.lemmas.List.Sums.{position_or_len_is}
use Rattle.std.proofs.lemmas.Map.Lookups.{exact_bytes}
use Rattle.std.proofs.lemmas.Map.Text.{is_eq-slice_cmp}
use Rattle.spec_format.specs.Strings.{IsBelow, IsAscending}
use Rattle.spec_format.specs.Varint.{varint}
use Rattle.snap_graph.specs.declared.value.Value.TheVariants.{Text}
use Rattle.std.proofs.lemmas.Slice.Eq.{bytes_eq-Decides}
use Rattle.spec_sections.specs.Global.{text_number}
use Rattle.snap_ctxfmt.specs.Reading.{Spell}
use Rattle.spec_sections.proofs.Texts.{number_is, place_inside}

-- the first string is below each one behind it
below_first : (s : List ℕ) (rest : List (List ℕ)) (k : ℕ) (d : List ℕ) → IsAscending (s ∷ rest) → k < length rest → IsBelow s (get_or rest k d)
below_first s [] k d up inside = absurd (omega arith)
below_first s (t ∷ rest) zero d up inside = up.0
below_first s (t ∷ rest) (suc k) d up inside =
    nat_list_cmp_total.trans s t (get_or rest k d) up.0 (below_first t rest k d up.1 (omega arith))

-- what stands behind the first string ascends
rest_ascends : (s : List ℕ) (rest : List (List ℕ)) → IsAscending (s ∷ rest) → IsAscending rest
rest_ascends s [] up = tt
rest_ascends s (t ∷ rest) up = up.1

-- each string is below each one behind it
below_behind : (strings : List (List ℕ)) (i j : ℕ) (d : List ℕ) → IsAscending strings → i < j → j < length strings → IsBelow (get_or strings i d) (get_or strings j d)
below_behind [] i j d up before inside = absurd (omega arith)
below_behind (s ∷ rest) i zero d up before inside = absurd (omega arith)
below_behind (s ∷ rest) zero (suc j) d up before inside = below_first s rest j d up (omega arith)
below_behind (s ∷ rest) (suc i) (suc j) d up before inside = below_behind rest i j d (rest_ascends s rest up) (omega arith) (omega arith)

-- strings that ascend are sorted
sorted : (strings : List (List ℕ)) → IsAscending strings → IsSortedBy (λ s t. is_lt (slice_cmp nat_cmp s t)) strings
sorted strings up k d low inside =
    let s = get_or strings k d in
    let t = get_or strings (k + 1) d in
    ap is_lt (nat_list_cmp_total.antisymm t s ∙ ap ordering_reverse (below_behind strings k (k + 1) d up (omega arith) inside))

-- whether two texts are one, by their order
same_by_order : (text s : List ℕ) (o : Ordering) → slice_cmp nat_cmp s text ≡ o → bytes_eq text s ≡ is_eq (ordering_reverse o)
same_by_order text s o ordered = sym (is_eq-slice_cmp text s) ∙ ap is_eq (nat_list_cmp_total.antisymm text s ∙ ap ordering_reverse ordered)

-- a place inside is what `position` gives
position_inside : {X : Type 0} (p : X → Bool) (xs : List X) (i : ℕ) → position_or_len p xs ≡ i → i < length xs → position p xs ≡ Some i
position_inside p xs i place inside = rw (place, lt-ltb i (length xs) inside) refl

-- with no place inside `position` gives none
position_outside : {X : Type 0} (p : X → Bool) (xs : List X) → length xs ≤ position_or_len p xs → position p xs ≡ None
position_outside p xs outside = rw (le-ltb (position_or_len p xs) (length xs) outside) refl

-- the place of the text that a search found
found : (strings : List (List ℕ)) (text : List ℕ) (i : ℕ) → IsAscending strings → i < length strings → HoldsAt (λ s. slice_cmp nat_cmp s text ≡ Equal) strings i → position (bytes_eq text) strings ≡ Some i
found strings text i up inside equal =
    let here = equal [] in
    let same : get_or strings i [] ≡ text = exact_bytes (get_or strings i []) text here in
    let P : List ℕ → Type 0 = λ t. (k : ℕ) → k < i → IsBelow (get_or strings k []) t in
    let below = subst P same (λ k before. below_behind strings k i [] up before inside) in
    position_inside (bytes_eq text) strings i
    (position_or_len_is (bytes_eq text) strings i [] (omega arith)
    (λ k before. same_by_order text (get_or strings k []) Less (below k before))
    (λ _. same_by_order text (get_or strings i []) Equal here))
    inside

-- what a binary search answers of strings that ascend
pub searched : (strings : List (List ℕ)) (text : List ℕ) (r : Result ℕ ℕ) → IsAscending strings → IsSearchInRange r (length strings) → IsBinarySearchResult (λ s. slice_cmp nat_cmp s text) strings r → result_ok r ≡ position (bytes_eq text) strings
searched strings text (Ok i) up inside equal = sym (found strings text i up inside equal)
searched strings text (Err i) up inside apart =
    let parts = apart (searchable_from_sorted nat_list_cmp_total (λ s. s) strings text (sorted strings up)) in
    let outside : position_or_len (bytes_eq text) strings ≡ length strings =
    position_or_len_is (bytes_eq text) strings (length strings) [] (omega arith)
    (λ k before.
    ⊎_elim
    (λ (low : k < i). same_by_order text (get_or strings k []) Less (parts.0 k [] (omega arith) low))
    (λ (high : i ≤ k). same_by_order text (get_or strings k []) Greater (parts.1 k [] high before))
    (cases_lt k i))
    (λ past. absurd (omega arith)) in
    sym (position_outside (bytes_eq text) strings (omega arith))

-- a text that is one of the strings has a place
pub placed : (strings : List (List ℕ)) (text : List ℕ) → Contains strings text → IsSome (position (bytes_eq text) strings)
placed strings text among =
    rw (position_inside (bytes_eq text) strings (position_or_len (bytes_eq text) strings) refl (place_inside strings text among)) refl

-- each string's number is its place
pub number_of_place : (strings : List (List ℕ)) (i : ℕ) → IsAscending strings → i < length strings → text_number strings (get_or strings i []) ≡ i
number_of_place strings i up inside =
    let text = get_or strings i [] in
    let first =
    position_or_len_is (bytes_eq text) strings i [] (omega arith)
    (λ k before. same_by_order text (get_or strings k []) Less (below_behind strings k i [] up before inside))
    (λ _. (bytes_eq-Decides text text).1 refl) in
    ap (λ (o : Option ℕ). unwrap_or o 0) (position_inside (bytes_eq text) strings i first inside)

-- the number of a text among the strings is below theirs
pub number_within : (strings : List (List ℕ)) (text : List ℕ) → Contains strings text → text_number strings text < length strings
number_within strings text among =
    let inside = place_inside strings text among in
    omega (arith, inside, number_is strings text inside)

-- a string of a place is one of the strings
pub among_strings : (strings : List (List ℕ)) (i : ℕ) → i < length strings → Contains strings (get_or strings i [])
among_strings strings i inside = (i, inside, get_or_default strings i (get_or strings i []) [] inside)

-- the number of a string spells it
pub text_spells : (strings : List (List ℕ)) (text : List ℕ) (number : ℕ) (left rest : List ℕ) → IsAscending strings → number < length strings → text ≡ get_or strings number []
    → left ≡ varint number ++ rest → Spell strings (6 ∷ left) (Text text) rest
text_spells strings text number left rest up inside here e =
    let P : List ℕ → Type 0 = λ t. Spell strings (6 ∷ left) (Text t) rest in
    let spelled = e ∙ ap (λ (k : ℕ). varint k ++ rest) (sym (number_of_place strings number up inside)) in
    subst P (sym here) (among_strings strings number inside, ap (λ (w : List ℕ). 6 ∷ w) spelled)
