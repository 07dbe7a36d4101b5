-- Texts that are among the strings.
use Rattle.std.proofs.Common.{◌≡◌, ℕ, ◌<◌, ◌≤◌, List, [], length, get_or, Contains, sym, ap, ◌∙◌, ⊎_elim, refl, arith}
use Rattle.std.specs.List.{position_or_len}
use Rattle.std.specs.Str.{bytes_eq}
use Rattle.std.proofs.lemmas.Bool.{lt-ltb, cases_lt, both_ways}
use Rattle.std.proofs.lemmas.List.Sums.{fails_before_first, passes_at_first}
use Rattle.std.proofs.lemmas.Slice.Eq.{bytes_eq-Decides}
use Rattle.spec_sections.specs.Global.{text_number}

-- the place of a text that is among the strings
pub place_inside : (strings : List (List ℕ)) (text : List ℕ) → Contains strings text → position_or_len (bytes_eq text) strings < length strings
place_inside strings text among =
    let p = bytes_eq text in
    ⊎_elim
    (λ (inside : position_or_len p strings < length strings). inside)
    (λ (outside : length strings ≤ position_or_len p strings).
    let no = fails_before_first p strings among.0 text (omega arith) in
    let yes = (bytes_eq-Decides text (get_or strings among.0 text)).1 (sym among.2) in
    absurd (both_ways _ no yes))
    (cases_lt (position_or_len p strings) (length strings))

-- the text's number is that place
pub number_is : (strings : List (List ℕ)) (text : List ℕ) → position_or_len (bytes_eq text) strings < length strings → text_number strings text ≡ position_or_len (bytes_eq text) strings
number_is strings text inside = rw (lt-ltb (position_or_len (bytes_eq text) strings) (length strings) inside) refl

-- the string of a text's number is the text
string_at : (strings : List (List ℕ)) (text : List ℕ) → Contains strings text → text ≡ get_or strings (text_number strings text) []
string_at strings text among =
    let inside = place_inside strings text among in
    let here = (bytes_eq-Decides text (get_or strings (position_or_len (bytes_eq text) strings) [])).0 (passes_at_first (bytes_eq text) strings [] inside) in
    here ∙ ap (λ (i : ℕ). get_or strings i []) (sym (number_is strings text inside))

-- texts among the strings that have one number are one text
pub same_text : (strings : List (List ℕ)) (s t : List ℕ) → Contains strings s → Contains strings t → text_number strings s ≡ text_number strings t → s ≡ t
same_text strings s t s_among t_among e = string_at strings s s_among ∙ ap (λ (i : ℕ). get_or strings i []) e ∙ sym (string_at strings t t_among)
