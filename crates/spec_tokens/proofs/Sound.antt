-- What is read is cut into pieces that stand.
use Rattle.std.proofs.Common.{◌≡◌, ℕ, zero, suc, ◌+◌, ◌-◌, ◌<◌, ◌≤◌, Bool, true, false, cond, ◌==◌, nat_eq, List, [], ◌∷◌, ◌++◌, length, take, drop, Result, Ok, Err, refl, sym, ap, subst, ◌∙◌, append_assoc, ◌⊎◌, ⊎_elim, inl, inr, arith}
use Rattle.std.specs.List.{starts_with}
use Rattle.std.proofs.lemmas.Bool.{cases_Bool, cases_eq, cases_lt, eqb-false, false_from_ne_true}
use Rattle.std.proofs.lemmas.List.{drop_at, length-append, length-drop, length-take, take-append-drop, take_at}
use Rattle.spec_tokens.proofs.Classes.{start_is_part}
use Rattle.spec_tokens.proofs.Cuts.{lexemes_from-none, lexemes_from-piece, lexemes_from-wrong}
use Rattle.spec_tokens.proofs.Cutting.{IsCut, blank_cut, block_comment_cut, chosen, is_ok_piece, line_comment_cut, line_end_cut, number_cut, ok_is, text_cut, word_cut}
use Rattle.spec_tokens.proofs.Longest.{mark_short, no_empty_mark}
use Rattle.spec_tokens.specs.Byte.{is_blank, is_digit, is_line_end, is_quote, is_start}
use Rattle.spec_tokens.specs.Gap.{block_comment, line_comment, line_end_len}
use Rattle.spec_tokens.specs.Laws.{AreElements, AreTokens, Element, spelled, tokens_among}
use Rattle.spec_tokens.specs.Mark.{is_mark, mark, mark_len}
use Rattle.spec_tokens.specs.Number.{number}
use Rattle.spec_tokens.specs.Piece.{piece, plain_piece, text, word}
use Rattle.spec_tokens.specs.Shape.{Stands}
use Rattle.spec_tokens.specs.Tokens.{Lexeme, lexemes, lexemes_from, lexemes_of, newline_behind, prepend}
use Rattle.spec_tokens.specs.declared.fault.LexFault.{LexFault}
use Rattle.spec_tokens.specs.declared.fault.LexFault.TheVariants.{BadByte}
use Rattle.spec_tokens.specs.declared.piece.Piece.{Piece}
use Rattle.spec_tokens.specs.declared.piece.PieceKind.TheVariants.{Blank, LineEnd, Token}
use Rattle.spec_tokens.specs.declared.piece.TokenKind.TheVariants.{Mark}

-- the longest mark has so many bytes at most
record IsLongest (bytes : List ℕ) (n : ℕ) : Type 0 where
  is : is_mark (take n bytes) ≡ true
  none : (m : ℕ) → n < m → m ≤ 4 → is_mark (take m bytes) ≡ false
  len : mark_len bytes ≡ length (take n bytes)

at_count : (bytes : List ℕ) (k m : ℕ) → k ≡ m → is_mark (take k bytes) ≡ false → is_mark (take m bytes) ≡ false
at_count bytes k m same other = subst (λ (n : ℕ). is_mark (take n bytes) ≡ false) same other

longest_front : (bytes : List ℕ) → (mark_len bytes ≡ 0) ⊎ ((n : ℕ) × IsLongest bytes n)
unfolding mark_len
longest_front bytes =
    ⊎_elim
    (λ (four : is_mark (take 4 bytes) ≡ true). inr (4, record { is = four; none = λ m more most. absurd (omega arith); len = rw four refl }))
    (λ (no_four : is_mark (take 4 bytes) ≡ false).
    ⊎_elim
    (λ (three : is_mark (take 3 bytes) ≡ true). inr (3, record { is = three; none = λ m more most. at_count bytes 4 m (omega arith) no_four; len = rw (no_four, three) refl }))
    (λ (no_three : is_mark (take 3 bytes) ≡ false).
    ⊎_elim
    (λ (two : is_mark (take 2 bytes) ≡ true).
    inr (2, record { is = two; none = λ m more most. ⊎_elim (λ (e : m ≡ 4). at_count bytes 4 m (sym e) no_four) (λ (ne : m ≡ 4 → ⊥). at_count bytes 3 m (omega arith) no_three) (cases_eq m 4); len = rw (no_four, no_three, two) refl }))
    (λ (no_two : is_mark (take 2 bytes) ≡ false).
    ⊎_elim
    (λ (one : is_mark (take 1 bytes) ≡ true).
    inr (1, record { is = one; none = λ m more most. ⊎_elim (λ (e : m ≡ 4). at_count bytes 4 m (sym e) no_four) (λ (ne : m ≡ 4 → ⊥). ⊎_elim (λ (e : m ≡ 3). at_count bytes 3 m (sym e) no_three) (λ (nor : m ≡ 3 → ⊥). at_count bytes 2 m (omega arith) no_two) (cases_eq m 3)) (cases_eq m 4); len = rw (no_four, no_three, no_two, one) refl }))
    (λ (no_one : is_mark (take 1 bytes) ≡ false). inl (rw (no_four, no_three, no_two, no_one) refl))
    (cases_Bool (is_mark (take 1 bytes))))
    (cases_Bool (is_mark (take 2 bytes))))
    (cases_Bool (is_mark (take 3 bytes))))
    (cases_Bool (is_mark (take 4 bytes)))

mark_some : (text : List ℕ) → is_mark text ≡ true → 0 < length text
mark_some [] is = absurd (no_empty_mark is)
mark_some (b ∷ text) is = omega arith

mark_longer : (bytes : List ℕ) (n : ℕ) → IsLongest bytes n → (more behind : List ℕ) → drop n bytes ≡ more ++ behind → 0 < length more → is_mark (take n bytes ++ more) ≡ false
mark_longer bytes n longest more behind split some =
    let split_len = ap length split in
    let rest_len : length more ≤ length bytes - n = omega (arith, split_len, length-append more behind, length-drop n bytes) in
    let front_len : length (take n bytes) ≡ n = omega (arith, length-take n bytes) in
    let text_len : length (take n bytes ++ more) ≡ n + length more = omega (arith, length-append (take n bytes) more) in
    let whole : bytes ≡ (take n bytes ++ more) ++ behind = sym (take-append-drop n bytes) ∙ ap (λ t. take n bytes ++ t) split ∙ sym (append_assoc (take n bytes) more behind) in
    let cut : take (n + length more) bytes ≡ take n bytes ++ more = ap (take (n + length more)) whole ∙ take_at (take n bytes ++ more) behind (n + length more) text_len in
    ⊎_elim
    (λ (long : 4 < n + length more). false_from_ne_true (is_mark (take n bytes ++ more)) (λ is. absurd (omega (arith, mark_short (take n bytes ++ more) is))))
    (λ (short : n + length more ≤ 4). subst (λ (t : List ℕ). is_mark t ≡ false) cut (longest.none (n + length more) (omega arith) short))
    (cases_lt 4 (n + length more))

mark_cut : (at : ℕ) (bytes : List ℕ) (found : Piece) → starts_with nat_eq bytes (47 ∷ 47 ∷ []) ≡ false → starts_with nat_eq bytes (47 ∷ 42 ∷ []) ≡ false → mark at bytes ≡ Ok found → IsCut bytes at found
unfolding mark
mark_cut at bytes found no_line no_block e =
    ⊎_elim
    (λ (none : (mark_len bytes == 0 ≡ true) × (Err (BadByte at) ≡ Ok found)). cc)
    (λ (some : (mark_len bytes == 0 ≡ false) × (Ok (record { kind = Token Mark; end = at + mark_len bytes }) ≡ Ok found)).
    ⊎_elim
    (λ (zero : mark_len bytes ≡ 0). absurd (eqb-false (mark_len bytes) 0 some.0 zero))
    (λ (front : (n : ℕ) × IsLongest bytes n).
    let n = front.0 in
    let whole = take-append-drop n bytes in
    let found_is = ok_is (record { kind = Token Mark; end = at + mark_len bytes }) found some.1 in
    let P : Piece → Type 0 = λ p. IsCut bytes at p in
    let Apart : ℕ → List ℕ → Type 0 = λ second t. starts_with nat_eq t (47 ∷ second ∷ []) ≡ false in
    subst P found_is
    (record { text = take n bytes; rest = drop n bytes; whole = sym whole; some = mark_some (take n bytes) front.1.is; end = ap (λ k. at + k) front.1.len; stands = (front.1.is, mark_longer bytes n front.1, subst (Apart 47) (sym whole) no_line, subst (Apart 42) (sym whole) no_block) }))
    (longest_front bytes))
    (chosen (mark_len bytes == 0) (Err (BadByte at)) (Ok (record { kind = Token Mark; end = at + mark_len bytes })) (Ok found) e)

digit_or_other : (at b : ℕ) (bytes : List ℕ) (found : Piece) → starts_with nat_eq (b ∷ bytes) (47 ∷ 47 ∷ []) ≡ false → starts_with nat_eq (b ∷ bytes) (47 ∷ 42 ∷ []) ≡ false → cond (is_digit b) (number at (b ∷ bytes)) (cond (is_quote b) (text at (b ∷ bytes)) (mark at (b ∷ bytes))) ≡ Ok found → IsCut (b ∷ bytes) at found
digit_or_other at b bytes found no_line no_block e =
    ⊎_elim
    (λ (digit : (is_digit b ≡ true) × (number at (b ∷ bytes) ≡ Ok found)). number_cut at b bytes found digit.0 digit.1)
    (λ (other : (is_digit b ≡ false) × (cond (is_quote b) (text at (b ∷ bytes)) (mark at (b ∷ bytes)) ≡ Ok found)).
    ⊎_elim
    (λ (quote : (is_quote b ≡ true) × (text at (b ∷ bytes) ≡ Ok found)). text_cut at b bytes found quote.0 quote.1)
    (λ (rest : (is_quote b ≡ false) × (mark at (b ∷ bytes) ≡ Ok found)). mark_cut at (b ∷ bytes) found no_line no_block rest.1)
    (chosen (is_quote b) (text at (b ∷ bytes)) (mark at (b ∷ bytes)) (Ok found) other.1))
    (chosen (is_digit b) (number at (b ∷ bytes)) (cond (is_quote b) (text at (b ∷ bytes)) (mark at (b ∷ bytes))) (Ok found) e)

plain_cut : (at b : ℕ) (bytes : List ℕ) (found : Piece) → starts_with nat_eq (b ∷ bytes) (47 ∷ 47 ∷ []) ≡ false → starts_with nat_eq (b ∷ bytes) (47 ∷ 42 ∷ []) ≡ false → plain_piece at (b ∷ bytes) ≡ Ok found → IsCut (b ∷ bytes) at found
unfolding plain_piece
plain_cut at b bytes found no_line no_block e =
    let others = cond (is_digit b) (number at (b ∷ bytes)) (cond (is_quote b) (text at (b ∷ bytes)) (mark at (b ∷ bytes))) in
    let words = cond (is_start b) (Ok (word at (b ∷ bytes))) others in
    let ends = cond (is_line_end b) (Ok (record { kind = LineEnd; end = at + line_end_len (b ∷ bytes) })) words in
    let P : Piece → Type 0 = λ p. IsCut (b ∷ bytes) at p in
    ⊎_elim
    (λ (blank : (is_blank b ≡ true) × (is_ok_piece (record { kind = Blank; end = at + 1 }) ≡ Ok found)). blank_cut at b bytes found blank.0 (ok_is _ found blank.1))
    (λ (no_blank : (is_blank b ≡ false) × (ends ≡ Ok found)).
    ⊎_elim
    (λ (end : (is_line_end b ≡ true) × (is_ok_piece (record { kind = LineEnd; end = at + line_end_len (b ∷ bytes) }) ≡ Ok found)). subst P (ok_is _ found end.1) (line_end_cut at b bytes end.0))
    (λ (no_end : (is_line_end b ≡ false) × (words ≡ Ok found)).
    ⊎_elim
    (λ (start : (is_start b ≡ true) × (is_ok_piece (word at (b ∷ bytes)) ≡ Ok found)). word_cut at b bytes found start.0 (start_is_part b start.0) (ok_is _ found start.1))
    (λ (no_start : (is_start b ≡ false) × (others ≡ Ok found)). digit_or_other at b bytes found no_line no_block no_start.1)
    (chosen (is_start b) (is_ok_piece (word at (b ∷ bytes))) others (Ok found) no_end.1))
    (chosen (is_line_end b) (is_ok_piece (record { kind = LineEnd; end = at + line_end_len (b ∷ bytes) })) words (Ok found) no_blank.1))
    (chosen (is_blank b) (is_ok_piece (record { kind = Blank; end = at + 1 })) ends (Ok found) e)

pub piece_cut : (at b : ℕ) (bytes : List ℕ) (found : Piece) → piece at (b ∷ bytes) ≡ Ok found → IsCut (b ∷ bytes) at found
unfolding piece
piece_cut at b bytes found e =
    let blocks = cond (starts_with nat_eq (b ∷ bytes) (47 ∷ 42 ∷ [])) (block_comment at (b ∷ bytes)) (plain_piece at (b ∷ bytes)) in
    ⊎_elim
    (λ (line : (starts_with nat_eq (b ∷ bytes) (47 ∷ 47 ∷ []) ≡ true) × (is_ok_piece (line_comment at (b ∷ bytes)) ≡ Ok found)). line_comment_cut at (b ∷ bytes) found line.0 (ok_is _ found line.1))
    (λ (no_line : (starts_with nat_eq (b ∷ bytes) (47 ∷ 47 ∷ []) ≡ false) × (blocks ≡ Ok found)).
    ⊎_elim
    (λ (block : (starts_with nat_eq (b ∷ bytes) (47 ∷ 42 ∷ []) ≡ true) × (block_comment at (b ∷ bytes) ≡ Ok found)). block_comment_cut at (b ∷ bytes) found block.0 block.1)
    (λ (no_block : (starts_with nat_eq (b ∷ bytes) (47 ∷ 42 ∷ []) ≡ false) × (plain_piece at (b ∷ bytes) ≡ Ok found)). plain_cut at b bytes found no_line.0 no_block.0 no_block.1)
    (chosen (starts_with nat_eq (b ∷ bytes) (47 ∷ 42 ∷ [])) (block_comment at (b ∷ bytes)) (plain_piece at (b ∷ bytes)) (Ok found) no_line.1))
    (chosen (starts_with nat_eq (b ∷ bytes) (47 ∷ 47 ∷ [])) (is_ok_piece (line_comment at (b ∷ bytes))) blocks (Ok found) e)

-- pieces that stand, and the tokens among them
record IsList (bytes : List ℕ) (at : ℕ) (newline : Bool) (list : List Lexeme) : Type 0 where
  elements : List Element
  pieces : AreElements elements
  whole : bytes ≡ spelled elements
  tokens : list ≡ tokens_among at newline elements

abbrev is_ok_list : List Lexeme → Result (List Lexeme) LexFault
is_ok_list x = Ok x

list_is : (x y : List Lexeme) → is_ok_list x ≡ Ok y → x ≡ y
list_is x y e = cc

pub no_list : (read : Result (List Lexeme) LexFault) (list : List Lexeme) (fault : LexFault) → read ≡ Ok list → read ≡ Err fault → ⊥
no_list read list fault is faulty = cc

-- what a prepended answer holds
behind_front : (front list : List Lexeme) (rest : Result (List Lexeme) LexFault) → prepend front rest ≡ Ok list → (more : List Lexeme) × (rest ≡ Ok more) × (list ≡ front ++ more)
behind_front front list (Ok more) e = (more, refl, sym (list_is (front ++ more) list e))
behind_front front list (Err fault) e = cc

-- a front that stands, and the list behind it
front_and_list : (at : ℕ) (newline : Bool) (bytes : List ℕ) (list more : List Lexeme) (found : Piece) (cut : IsCut bytes at found) → list ≡ lexemes_of found.kind cut.text at newline ++ more → IsList cut.rest (at + length cut.text) (newline_behind found.kind newline) more → IsList bytes at newline list
front_and_list at newline bytes list more found cut list_front behind =
    let stands = subst (λ (t : List ℕ). Stands found.kind cut.text t) behind.whole cut.stands in
    record {
      elements = record { kind = found.kind; text = cut.text } ∷ behind.elements;
      pieces = (stands, behind.pieces);
      whole = cut.whole ∙ ap (λ t. cut.text ++ t) behind.whole;
      tokens = list_front ∙ ap (λ t. lexemes_of found.kind cut.text at newline ++ t) behind.tokens;
    }

-- the answer for what stands behind a piece
pub answer_behind : (at : ℕ) (newline : Bool) (bytes : List ℕ) (answer : Result (List Lexeme) LexFault) (found : Piece) (cut : IsCut bytes at found) → piece at bytes ≡ Ok found → lexemes_from 0 at newline bytes ≡ answer → prepend (lexemes_of found.kind cut.text at newline) (lexemes_from 0 (at + length cut.text) (newline_behind found.kind newline) cut.rest) ≡ answer
answer_behind at newline bytes answer found cut read e =
    let whole_len : length bytes ≡ length cut.text + length cut.rest = ap length cut.whole ∙ length-append cut.text cut.rest in
    let some = cut.some in
    let long : 0 < length bytes = omega arith in
    let step = lexemes_from-piece at (length cut.text) newline bytes found long cut.some cut.end read in
    let front : take (length cut.text) bytes ≡ cut.text = ap (take (length cut.text)) cut.whole ∙ take_at cut.text cut.rest (length cut.text) refl in
    let behind : drop (length cut.text) bytes ≡ cut.rest = ap (drop (length cut.text)) cut.whole ∙ drop_at cut.text cut.rest (length cut.text) refl in
    let len = length cut.text in
    ap (λ t. prepend (lexemes_of found.kind t at newline) (lexemes_from 0 (at + len) (newline_behind found.kind newline) cut.rest)) (sym front)
    ∙ ap (λ t. prepend (lexemes_of found.kind (take len bytes) at newline) (lexemes_from 0 (at + len) (newline_behind found.kind newline) t)) (sym behind)
    ∙ sym step ∙ e

-- what is left is cut where a smaller rest is
piece_list : (at : ℕ) (newline : Bool) (bytes : List ℕ) (list : List Lexeme) (read : Result Piece LexFault) → 0 < length bytes → ((found : Piece) → piece at bytes ≡ Ok found → IsCut bytes at found) → ((at : ℕ) (newline : Bool) (rest : List ℕ) (more : List Lexeme) → length rest < length bytes → lexemes_from 0 at newline rest ≡ Ok more → IsList rest at newline more) → piece at bytes ≡ read → lexemes_from 0 at newline bytes ≡ Ok list → IsList bytes at newline list
piece_list at newline bytes list (Err fault) some cuts smaller read e = absurd (no_list (lexemes_from 0 at newline bytes) list fault e (lexemes_from-wrong at newline bytes fault some read))
piece_list at newline bytes list (Ok found) some cuts smaller read e =
    let cut = cuts found read in
    let whole_len : length bytes ≡ length cut.text + length cut.rest = ap length cut.whole ∙ length-append cut.text cut.rest in
    let text_some = cut.some in
    let short : length cut.rest < length bytes = omega arith in
    let behind = behind_front (lexemes_of found.kind cut.text at newline) list (lexemes_from 0 (at + length cut.text) (newline_behind found.kind newline) cut.rest) (answer_behind at newline bytes (Ok list) found cut read e) in
    front_and_list at newline bytes list behind.0 found cut behind.2 (smaller (at + length cut.text) (newline_behind found.kind newline) cut.rest behind.0 short behind.1)

list_cut : (fuel at : ℕ) (newline : Bool) (bytes : List ℕ) (list : List Lexeme) → length bytes ≤ fuel → lexemes_from 0 at newline bytes ≡ Ok list → IsList bytes at newline list
list_cut fuel at newline [] list short e =
    record { elements = []; pieces = tt; whole = refl; tokens = sym (list_is [] list (sym (lexemes_from-none at newline [] refl) ∙ e)) }
list_cut zero at newline (b ∷ bytes) list short e = absurd (omega arith)
list_cut (suc fuel) at newline (b ∷ bytes) list short e =
    piece_list at newline (b ∷ bytes) list (piece at (b ∷ bytes)) (omega arith) (λ found. piece_cut at b bytes found) (λ at newline rest more smaller. list_cut fuel at newline rest more (omega arith)) refl e

pub list_is_cut : (source : List ℕ) (list : List Lexeme) → lexemes source ≡ Ok list → AreTokens source list
unfolding lexemes
list_is_cut source list e =
    let cut = list_cut (length source) 0 false source list (omega arith) e in
    record { elements = cut.elements; pieces = cut.pieces; whole = cut.whole; tokens = cut.tokens }
