-- The longest mark at the front.
use Rattle.std.proofs.Common.{◌≡◌, ℕ, zero, suc, ◌+◌, ◌≤◌, Bool, true, false, not, ◌||◌, ◌==◌, nat_le, List, [], ◌∷◌, ◌++◌, length, take, drop, find, Some, Ok, refl, sym, ap, ◌∙◌, ◌⊎◌, ⊎_elim, inl, inr, arith}
use Rattle.std.specs.List.{list_any, list_all}
use Rattle.std.specs.Str.{bytes_eq}
use Rattle.std.proofs.lemmas.Bool.{and_parts, or_cases, leb-true, ne_eqb, not-true, or_parts, false≢true}
use Rattle.std.proofs.lemmas.List.{take-append-drop, append-nil}
use Rattle.std.proofs.lemmas.Slice.Eq.{bytes_eq-Decides}
use Rattle.spec_tokens.specs.Byte.{is_blank, is_digit, is_line_end, is_quote, is_start}
use Rattle.spec_tokens.specs.Mark.{is_mark, mark, mark_len, marks}
use Rattle.spec_tokens.specs.Piece.{piece, plain_piece}
use Rattle.spec_tokens.specs.Shape.{IsMark}
use Rattle.spec_tokens.specs.declared.piece.PieceKind.TheVariants.{Token}
use Rattle.spec_tokens.specs.declared.piece.TokenKind.TheVariants.{Mark}

-- what holds of each text of a list holds of one that is in it
listed : (q : List ℕ → Bool) (text : List ℕ) (texts : List (List ℕ)) → list_all q texts ≡ true → list_any (bytes_eq text) texts ≡ true → q text ≡ true
listed q text [] all any = absurd (false≢true any)
listed q text (other ∷ texts) all any =
    let parts = and_parts (q other) (list_all q texts) all in
    ⊎_elim
    (λ (here : bytes_eq text other ≡ true). ap q ((bytes_eq-Decides text other).0 here) ∙ parts.0)
    (λ (later : list_any (bytes_eq text) texts ≡ true). listed q text texts parts.1 later)
    (or_cases (bytes_eq text other) (list_any (bytes_eq text) texts) any)

-- the first byte begins no other piece
abbrev begins_mark : List ℕ → Bool
begins_mark [] = false
begins_mark (b ∷ bytes) = not (is_blank b || is_line_end b || is_start b || is_digit b || is_quote b)

abbrev is_short : List ℕ → Bool
is_short text = nat_le (length text) 4

pub mark_short : (text : List ℕ) → is_mark text ≡ true → length text ≤ 4
unfolding is_mark
mark_short text e = leb-true (length text) 4 (listed is_short text marks refl e)

mark_begins : (text : List ℕ) → is_mark text ≡ true → begins_mark text ≡ true
unfolding is_mark is_blank is_line_end is_start is_digit is_quote
mark_begins text e = listed begins_mark text marks refl e

pub no_empty_mark : is_mark [] ≡ true → ⊥
no_empty_mark e = false≢true (mark_begins [] e)

-- the first byte of a mark is a mark
abbrev is_mark_first : List ℕ → Bool
is_mark_first text = is_mark (take 1 text)

pub mark_first : (b : ℕ) (bytes : List ℕ) → is_mark (b ∷ bytes) ≡ true → is_mark (b ∷ []) ≡ true
unfolding is_mark
mark_first b bytes e = listed is_mark_first (b ∷ bytes) marks refl e

pub slash_is_mark : is_mark (47 ∷ []) ≡ true
unfolding is_mark
slash_is_mark = refl

-- a longer front is the text again, or no mark
longer_front : (text rest : List ℕ) (n : ℕ) → IsMark text rest → (text ++ take n rest ≡ text) ⊎ (is_mark (text ++ take n rest) ≡ false)
longer_front text [] zero is = inl (append-nil text)
longer_front text [] (suc n) is = inl (append-nil text)
longer_front text (b ∷ rest) zero is = inl (append-nil text)
longer_front text (b ∷ rest) (suc n) is = inr (is.1 (take (suc n) (b ∷ rest)) (drop (suc n) (b ∷ rest)) (sym (take-append-drop (suc n) (b ∷ rest))) (omega arith))

-- a candidate that is the text, or no mark, does not stop the search for the text
passed_front : (text front : List ℕ) (fronts : List (List ℕ)) → is_mark text ≡ true → (front ≡ text) ⊎ (is_mark front ≡ false) → find is_mark fronts ≡ Some text → find is_mark (front ∷ fronts) ≡ Some text
passed_front text front fronts is (inl same) found = rw (same, is) refl
passed_front text front fronts is (inr other) found = rw other found

here_front : (text : List ℕ) (fronts : List (List ℕ)) → is_mark text ≡ true → find is_mark (text ∷ fronts) ≡ Some text
here_front text fronts is = rw is refl

-- the longest mark at the front is found
find-mark : (text rest : List ℕ) → IsMark text rest → find is_mark (take 4 (text ++ rest) ∷ take 3 (text ++ rest) ∷ take 2 (text ++ rest) ∷ take 1 (text ++ rest) ∷ []) ≡ Some text
find-mark [] rest is = absurd (false≢true (mark_begins [] is.0))
find-mark (a ∷ []) rest is =
    passed_front (a ∷ []) (a ∷ take 3 rest) ((a ∷ take 2 rest) ∷ (a ∷ take 1 rest) ∷ (a ∷ []) ∷ []) is.0 (longer_front (a ∷ []) rest 3 is)
    (passed_front (a ∷ []) (a ∷ take 2 rest) ((a ∷ take 1 rest) ∷ (a ∷ []) ∷ []) is.0 (longer_front (a ∷ []) rest 2 is)
    (passed_front (a ∷ []) (a ∷ take 1 rest) ((a ∷ []) ∷ []) is.0 (longer_front (a ∷ []) rest 1 is)
    (here_front (a ∷ []) [] is.0)))
find-mark (a ∷ b ∷ []) rest is =
    passed_front (a ∷ b ∷ []) (a ∷ b ∷ take 2 rest) ((a ∷ b ∷ take 1 rest) ∷ (a ∷ b ∷ []) ∷ (a ∷ []) ∷ []) is.0 (longer_front (a ∷ b ∷ []) rest 2 is)
    (passed_front (a ∷ b ∷ []) (a ∷ b ∷ take 1 rest) ((a ∷ b ∷ []) ∷ (a ∷ []) ∷ []) is.0 (longer_front (a ∷ b ∷ []) rest 1 is)
    (here_front (a ∷ b ∷ []) ((a ∷ []) ∷ []) is.0))
find-mark (a ∷ b ∷ c ∷ []) rest is =
    passed_front (a ∷ b ∷ c ∷ []) (a ∷ b ∷ c ∷ take 1 rest) ((a ∷ b ∷ c ∷ []) ∷ (a ∷ b ∷ []) ∷ (a ∷ []) ∷ []) is.0 (longer_front (a ∷ b ∷ c ∷ []) rest 1 is)
    (here_front (a ∷ b ∷ c ∷ []) ((a ∷ b ∷ []) ∷ (a ∷ []) ∷ []) is.0)
find-mark (a ∷ b ∷ c ∷ d ∷ []) rest is = here_front (a ∷ b ∷ c ∷ d ∷ []) ((a ∷ b ∷ c ∷ []) ∷ (a ∷ b ∷ []) ∷ (a ∷ []) ∷ []) is.0
find-mark (a ∷ b ∷ c ∷ d ∷ e ∷ text) rest is = absurd (omega (arith, mark_short (a ∷ b ∷ c ∷ d ∷ e ∷ text) is.0))

mark_len-is : (text rest : List ℕ) → IsMark text rest → mark_len (text ++ rest) ≡ length text
unfolding mark_len
mark_len-is text rest is = rw (find-mark text rest is) refl

pub piece-mark : (at b : ℕ) (bytes rest : List ℕ) → IsMark (b ∷ bytes) rest → piece at (b ∷ bytes ++ rest) ≡ Ok (record { kind = Token Mark; end = at + length (b ∷ bytes) })
unfolding piece plain_piece mark
piece-mark at b bytes rest is =
    let begins = not-true (is_blank b || is_line_end b || is_start b || is_digit b || is_quote b) (mark_begins (b ∷ bytes) is.0) in
    let quote = or_parts (is_blank b || is_line_end b || is_start b || is_digit b) (is_quote b) begins in
    let digit = or_parts (is_blank b || is_line_end b || is_start b) (is_digit b) quote.0 in
    let start = or_parts (is_blank b || is_line_end b) (is_start b) digit.0 in
    let gap = or_parts (is_blank b) (is_line_end b) start.0 in
    let some : length (b ∷ bytes) == 0 ≡ false = ne_eqb (length (b ∷ bytes)) 0 (λ none. absurd (omega arith)) in
    rw (is.2, is.3, gap.0, gap.1, start.1, digit.1, quote.1, mark_len-is (b ∷ bytes) rest is, some) refl
