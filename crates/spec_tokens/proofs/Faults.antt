-- What lacks a piece is read as its fault.
use Rattle.std.proofs.Common.{◌≡◌, ℕ, suc, ◌+◌, ◌-◌, ◌<◌, ◌≤◌, Bool, true, false, eqb, ◌==◌, ◌||◌, nat_eq, List, [], ◌∷◌, ◌++◌, length, take, drop, None, Ok, Err, refl, sym, ap, subst, ◌∙◌, append_assoc, ⊎_elim, inl, inr, arith}
use Rattle.std.specs.List.{prefix_len, starts_with}
use Rattle.std.proofs.lemmas.Bool.{cases_Bool, cases_lt, false≢true, false_from_ne_true, le-ltb, lt-ltb, ne_eqb, or_parts}
use Rattle.std.proofs.lemmas.List.{append-nil, take_at, drop_at, length-append, length-take, take-append-drop}
use Rattle.spec_tokens.proofs.Classes.{digit_excludes, line_end_excludes, no_source_excludes}
use Rattle.spec_tokens.proofs.Cutting.{number_front}
use Rattle.spec_tokens.proofs.Cuts.{lexemes_from-piece, lexemes_from-wrong}
use Rattle.spec_tokens.proofs.Gaps.{comment_end-more, comment_end-none, comment_end-wrong}
use Rattle.spec_tokens.proofs.Longest.{mark_first, slash_is_mark}
use Rattle.spec_tokens.proofs.Pieces.{not_zero_first, number_first, piece-plain, piece-quote, text_end-passes}
use Rattle.spec_tokens.proofs.Reading.{stands_read}
use Rattle.spec_tokens.proofs.Runs.{prefix_len-least}
use Rattle.spec_tokens.proofs.Texts.{text_end-none, text_end-wrong}
use Rattle.spec_tokens.specs.Byte.{is_blank, is_digit, is_hex, is_line_end, is_quote, is_source, is_start}
use Rattle.spec_tokens.specs.Faults.{AreBefore, HasFault, IsLineOver, IsLiteral, IsNoItem, IsOpenBody, IsSpelling, LacksPiece, begins_piece}
use Rattle.spec_tokens.specs.Faults as why
use Rattle.spec_tokens.specs.Gap.{block_comment, comment_end}
use Rattle.spec_tokens.specs.Laws.{Element, spelled}
use Rattle.spec_tokens.specs.Mark.{is_mark, mark, mark_len}
use Rattle.spec_tokens.specs.Number.{is_hexadecimal, is_number_tail, is_zero_first, largest, number, number_len, number_value}
use Rattle.spec_tokens.specs.Piece.{piece, plain_piece}
use Rattle.spec_tokens.specs.Shape.{AllAre, AreItems, IsDecimal, IsHexadecimal, is_tail, joined}
use Rattle.spec_tokens.specs.Text.{◌>>=◌, escape, item_len, text_end}
use Rattle.spec_tokens.specs.Tokens.{lexemes, lexemes_from, newline_behind}
use Rattle.spec_tokens.specs.declared.fault.LexFault.{LexFault}
use Rattle.spec_tokens.specs.declared.fault.LexFault.TheVariants.{BadByte, BigLiteral, Unclosed}
use Rattle.spec_tokens.specs.declared.piece.PieceKind.TheVariants.{Token}
use Rattle.spec_tokens.specs.declared.piece.TokenKind.TheVariants.{Text}

-- a byte that begins no piece
no_mark : (b : ℕ) (bytes : List ℕ) → is_mark (b ∷ []) ≡ false → is_mark (b ∷ bytes) ≡ false
no_mark b bytes none = false_from_ne_true (is_mark (b ∷ bytes)) (λ is. false≢true (sym none ∙ mark_first b bytes is))

mark_len_none : (b : ℕ) (bytes : List ℕ) → is_mark (b ∷ []) ≡ false → mark_len (b ∷ bytes) ≡ 0
unfolding mark_len
mark_len_none b bytes none = rw (no_mark b (take 3 bytes) none, no_mark b (take 2 bytes) none, no_mark b (take 1 bytes) none, none) refl

piece-no_first : (at b : ℕ) (bytes : List ℕ) → begins_piece b ≡ false → piece at (b ∷ bytes) ≡ Err (BadByte at)
unfolding plain_piece mark
piece-no_first at b bytes none =
    let mark_of = or_parts (is_blank b || is_line_end b || is_start b || is_digit b || is_quote b) (is_mark (b ∷ [])) none in
    let quote = or_parts (is_blank b || is_line_end b || is_start b || is_digit b) (is_quote b) mark_of.0 in
    let digit = or_parts (is_blank b || is_line_end b || is_start b) (is_digit b) quote.0 in
    let start = or_parts (is_blank b || is_line_end b) (is_start b) digit.0 in
    let gap = or_parts (is_blank b) (is_line_end b) start.0 in
    let apart : eqb 47 b ≡ false = ne_eqb 47 b (λ same. false≢true (sym mark_of.1 ∙ ap (λ x. is_mark (x ∷ [])) (sym same) ∙ slash_is_mark)) in
    piece-plain at b bytes apart ∙ rw (gap.0, gap.1, start.1, digit.1, quote.1, mark_len_none b bytes mark_of.1) refl

-- numbers
hex_fits : (text rest : List ℕ) → IsHexadecimal text → length text ≤ number_len (text ++ rest)
unfolding number_len is_hexadecimal
hex_fits [] rest hex = absurd hex
hex_fits (z ∷ []) rest hex = absurd hex
hex_fits (z ∷ x ∷ []) rest hex = absurd hex
hex_fits (z ∷ x ∷ t ∷ digits) rest hex =
    let zero : z == 48 ≡ true = rw hex.0 refl in
    let one : is_hex t ≡ true = hex.2.0 in
    let least = prefix_len-least is_hex (t ∷ digits) rest hex.2 in
    let len : number_len (z ∷ x ∷ t ∷ digits ++ rest) ≡ 2 + prefix_len is_hex (t ∷ digits ++ rest) = rw (zero, hex.1, one) refl in
    omega (arith, least, len)

zero_fits : (rest : List ℕ) → 1 ≤ number_len (48 ∷ rest)
unfolding number_len is_zero_first
zero_fits rest =
    ⊎_elim
    (λ (hex : is_hexadecimal (48 ∷ rest) ≡ true). rw hex (omega arith))
    (λ (other : is_hexadecimal (48 ∷ rest) ≡ false). rw other (omega arith))
    (cases_Bool (is_hexadecimal (48 ∷ rest)))

decimal_fits : (text rest : List ℕ) → IsDecimal text → length text ≤ number_len (text ++ rest)
unfolding number_len is_zero_first
decimal_fits [] rest decimal = absurd decimal
decimal_fits (b ∷ bytes) rest decimal =
    ⊎_elim
    (λ (alone : (b ≡ 48) × (bytes ≡ [])). rw (alone.0, alone.1) (zero_fits rest))
    (λ (more : (b == 48 ≡ false) × AllAre is_digit bytes).
    let least = prefix_len-least is_digit (b ∷ bytes) rest (decimal.0, more.1) in
    let len : number_len (b ∷ bytes ++ rest) ≡ prefix_len is_digit (b ∷ bytes ++ rest) = rw (not_zero_first b (bytes ++ rest) more.0, more.0) refl in
    omega (arith, least, len))
    decimal.1

-- no longer number stands at the front than the one that is read
pub spelling_fits : (text rest : List ℕ) → IsSpelling text → length text ≤ number_len (text ++ rest)
spelling_fits text rest (inl hex) = hex_fits text rest hex
spelling_fits text rest (inr decimal) = decimal_fits text rest decimal

take_past : (text rest : List ℕ) (k : ℕ) → take (length text + k) (text ++ rest) ≡ text ++ take k rest
take_past [] rest k = ap (λ n. take n rest) (omega arith)
take_past (b ∷ text) rest k =
    let longer : length (b ∷ text) + k ≡ suc (length text + k) = omega arith in
    rw longer (ap (λ t. b ∷ t) (take_past text rest k))

literal_len : (b : ℕ) (bytes rest : List ℕ) → IsLiteral (b ∷ bytes) rest → number_len (b ∷ bytes ++ rest) ≡ length (b ∷ bytes)
literal_len b bytes rest is =
    let text = b ∷ bytes in
    let n = number_len (text ++ rest) in
    let front = number_front b (bytes ++ rest) (number_first b bytes is.0) in
    let least = spelling_fits text rest is.0 in
    let whole_len = length-append text rest in
    ⊎_elim
    (λ (longer : length text < n).
    let k = n - length text in
    let n_is : n ≡ length text + k = omega arith in
    let cut : take n (text ++ rest) ≡ text ++ take k rest = ap (λ m. take m (text ++ rest)) n_is ∙ take_past text rest k in
    let some : 0 < length (take k rest) = omega (arith, length-take k rest, front.1, whole_len) in
    absurd (is.1 (take k rest) (drop k rest) (sym (take-append-drop k rest)) some (subst IsSpelling cut front.0)))
    (λ (short : n ≤ length text). omega arith)
    (cases_lt (length text) n)

piece-digit : (at b : ℕ) (bytes : List ℕ) → is_digit b ≡ true → piece at (b ∷ bytes) ≡ number at (b ∷ bytes)
unfolding plain_piece
piece-digit at b bytes digit =
    let apart = digit_excludes b digit in
    piece-plain at b bytes apart.slash ∙ rw (apart.blank, apart.line_end, apart.start, digit) refl

number_large : (at b : ℕ) (bytes rest : List ℕ) → IsLiteral (b ∷ bytes) rest → largest < number_value (b ∷ bytes) → number at (b ∷ bytes ++ rest) ≡ Err (BigLiteral at)
unfolding number
number_large at b bytes rest is large =
    let front = take_at (b ∷ bytes) rest (length (b ∷ bytes)) refl in
    rw (literal_len b bytes rest is, front, lt-ltb largest (number_value (b ∷ bytes)) large) refl

number_tailed : (at b : ℕ) (bytes : List ℕ) (c : ℕ) (rest : List ℕ) → IsLiteral (b ∷ bytes) (c ∷ rest) → number_value (b ∷ bytes) ≤ largest → is_tail c ≡ true → number at (b ∷ bytes ++ c ∷ rest) ≡ Err (BadByte (at + length (b ∷ bytes)))
unfolding number is_number_tail
number_tailed at b bytes c rest is small tail =
    let front = take_at (b ∷ bytes) (c ∷ rest) (length (b ∷ bytes)) refl in
    let behind = drop_at (b ∷ bytes) (c ∷ rest) (length (b ∷ bytes)) refl in
    rw (literal_len b bytes (c ∷ rest) is, front, behind, le-ltb largest (number_value (b ∷ bytes)) small, tail) refl

piece-large : (at : ℕ) (text rest : List ℕ) → IsLiteral text rest → largest < number_value text → piece at (text ++ rest) ≡ Err (BigLiteral at)
piece-large at [] rest is large = absurd (⊎_elim (λ (hex : ⊥). hex) (λ (decimal : ⊥). decimal) is.0)
piece-large at (b ∷ bytes) rest is large = piece-digit at b (bytes ++ rest) (number_first b bytes is.0) ∙ number_large at b bytes rest is large

piece-tailed : (at : ℕ) (text : List ℕ) (c : ℕ) (rest : List ℕ) → IsLiteral text (c ∷ rest) → number_value text ≤ largest → is_tail c ≡ true → piece at (text ++ c ∷ rest) ≡ Err (BadByte (at + length text))
piece-tailed at [] c rest is small tail = absurd (⊎_elim (λ (hex : ⊥). hex) (λ (decimal : ⊥). decimal) is.0)
piece-tailed at (b ∷ bytes) c rest is small tail = piece-digit at b (bytes ++ c ∷ rest) (number_first b bytes is.0) ∙ number_tailed at b bytes c rest is small tail

-- texts
line_end_item : (start at b : ℕ) (rest : List ℕ) → is_line_end b ≡ true → item_len start at (b ∷ rest) ≡ Err (Unclosed start)
unfolding item_len
line_end_item start at b rest over = rw ((line_end_excludes b over).backslash, over) refl

text_over : (quote start at : ℕ) (rest : List ℕ) → is_quote quote ≡ true → IsLineOver rest → text_end quote start 0 at rest ≡ Err (Unclosed start)
text_over quote start at [] is over = text_end-none quote start at [] refl
text_over quote start at (b ∷ rest) is over =
    let other : b ≡ quote → ⊥ = λ same. false≢true (sym (line_end_excludes b over).quote ∙ ap is_quote same ∙ is) in
    text_end-wrong quote start at (b ∷ rest) (Unclosed start) (omega arith) other (line_end_item start at b rest over)

no_source_item : (start at b : ℕ) (rest : List ℕ) → is_source b ≡ false → item_len start at (b ∷ rest) ≡ Err (BadByte at)
unfolding item_len
no_source_item start at b rest none =
    let apart = no_source_excludes b none in
    rw (apart.backslash, apart.line_end, apart.in_line) refl

no_escape_item : (start at : ℕ) (rest : List ℕ) → escape rest ≡ None → item_len start at (92 ∷ rest) ≡ Err (BadByte at)
unfolding item_len
no_escape_item start at rest none = rw none refl

backslash_no_quote : is_quote 92 ≡ false
unfolding is_quote
backslash_no_quote = refl

text_no_item : (quote start at b : ℕ) (rest : List ℕ) → is_quote quote ≡ true → IsNoItem b rest → text_end quote start 0 at (b ∷ rest) ≡ Err (BadByte at)
text_no_item quote start at b rest is (inl none) =
    let other : b ≡ quote → ⊥ = λ same. false≢true (sym (no_source_excludes b none).quote ∙ ap is_quote same ∙ is) in
    text_end-wrong quote start at (b ∷ rest) (BadByte at) (omega arith) other (no_source_item start at b rest none)
text_no_item quote start at b rest is (inr wrong) =
    let other : 92 ≡ quote → ⊥ = λ same. false≢true (sym backslash_no_quote ∙ ap is_quote same ∙ is) in
    rw wrong.0 (text_end-wrong quote start at (92 ∷ rest) (BadByte at) (omega arith) other (no_escape_item start at rest wrong.1))

piece-open_text : (at quote : ℕ) (items : List (List ℕ)) (rest : List ℕ) (fault : LexFault) → is_quote quote ≡ true → AreItems quote items rest → text_end quote at 0 (at + 1 + length (joined items)) rest ≡ Err fault → piece at (quote ∷ (joined items ++ rest)) ≡ Err fault
piece-open_text at quote items rest fault is are e =
    piece-quote at quote (joined items ++ rest) is
    ∙ ap (λ r. r >>= λ end. Ok (record { kind = Token Text; end = end })) (text_end-passes quote at (at + 1) items rest are ∙ e)

-- comments
comment_end-open : (start at : ℕ) (body rest : List ℕ) → IsOpenBody body rest → comment_end start at (body ++ rest) ≡ comment_end start (at + length body) rest
comment_end-open start at [] rest open_body = ap (λ n. comment_end start n rest) (omega arith)
comment_end-open start at (b ∷ body) rest open_body =
    comment_end-more start at (b ∷ (body ++ rest)) (omega arith) open_body.0 open_body.1
    ∙ comment_end-open start (at + 1) body rest open_body.2
    ∙ ap (λ n. comment_end start n rest) (omega arith)

piece-open_comment : (at : ℕ) (bytes : List ℕ) (fault : LexFault) → comment_end at (at + 2) bytes ≡ Err fault → piece at (47 ∷ 42 ∷ bytes) ≡ Err fault
unfolding piece block_comment
piece-open_comment at bytes fault e = rw e refl

comment_over : (at : ℕ) (body : List ℕ) → IsOpenBody body [] → comment_end at (at + 2) body ≡ Err (Unclosed at)
comment_over at body open_body =
    ap (comment_end at (at + 2)) (sym (append-nil body)) ∙ comment_end-open at (at + 2) body [] open_body ∙ comment_end-none at (at + 2 + length body) [] refl

comment_no_source : (at : ℕ) (body : List ℕ) (b : ℕ) (rest : List ℕ) → IsOpenBody body (b ∷ rest) → is_source b ≡ false → comment_end at (at + 2) (body ++ b ∷ rest) ≡ Err (BadByte (at + 2 + length body))
comment_no_source at body b rest open_body none =
    let apart : starts_with nat_eq (b ∷ rest) (42 ∷ 47 ∷ []) ≡ false = rw (no_source_excludes b none).star refl in
    comment_end-open at (at + 2) body (b ∷ rest) open_body ∙ comment_end-wrong at (at + 2 + length body) (b ∷ rest) (omega arith) apart none

-- what lacks a piece is not empty, and reading comes to its fault
record IsWrong (at : ℕ) (left : List ℕ) (fault : LexFault) : Type 0 where
  some : 0 < length left
  read : piece at left ≡ Err fault

wrong_is : (at : ℕ) (left other : List ℕ) (fault read : LexFault) → left ≡ other → fault ≡ read → 0 < length other → piece at other ≡ Err read → IsWrong at left fault
wrong_is at left other fault read left_is fault_is some e = rw (left_is, fault_is) (record { some = some; read = e })

literal_some : (text rest : List ℕ) → IsSpelling text → 0 < length (text ++ rest)
literal_some [] rest is = absurd (⊎_elim (λ (hex : ⊥). hex) (λ (decimal : ⊥). decimal) is)
literal_some (b ∷ text) rest is = omega arith

lacking_read : (at : ℕ) (left : List ℕ) (fault : LexFault) → LacksPiece at left fault → IsWrong at left fault
lacking_read at left fault (why.NoFirst b rest left_is none fault_is) = wrong_is at left (b ∷ rest) fault (BadByte at) left_is fault_is (omega arith) (piece-no_first at b rest none)
lacking_read at left fault (why.LargeNumber text rest left_is is large fault_is) = wrong_is at left (text ++ rest) fault (BigLiteral at) left_is fault_is (literal_some text rest is.0) (piece-large at text rest is large)
lacking_read at left fault (why.NumberTail text b rest left_is is small tail fault_is) = wrong_is at left (text ++ b ∷ rest) fault (BadByte (at + length text)) left_is fault_is (literal_some text (b ∷ rest) is.0) (piece-tailed at text b rest is small tail)
lacking_read at left fault (why.OpenText quote items rest left_is is are over fault_is) =
    wrong_is at left (quote ∷ (joined items ++ rest)) fault (Unclosed at) left_is fault_is (omega arith)
    (piece-open_text at quote items rest (Unclosed at) is are (text_over quote at (at + 1 + length (joined items)) rest is over))
lacking_read at left fault (why.NoItem quote items b rest left_is is are none fault_is) =
    wrong_is at left (quote ∷ (joined items ++ b ∷ rest)) fault (BadByte (at + 1 + length (joined items))) left_is fault_is (omega arith)
    (piece-open_text at quote items (b ∷ rest) (BadByte (at + 1 + length (joined items))) is are (text_no_item quote at (at + 1 + length (joined items)) b rest is none))
lacking_read at left fault (why.OpenComment body left_is open_body fault_is) =
    wrong_is at left (47 ∷ 42 ∷ body) fault (Unclosed at) left_is fault_is (omega arith) (piece-open_comment at body (Unclosed at) (comment_over at body open_body))
lacking_read at left fault (why.NoSource body b rest left_is open_body none fault_is) =
    wrong_is at left (47 ∷ 42 ∷ (body ++ b ∷ rest)) fault (BadByte (at + 2 + length body)) left_is fault_is (omega arith)
    (piece-open_comment at (body ++ b ∷ rest) (BadByte (at + 2 + length body)) (comment_no_source at body b rest open_body none))

-- pieces that stand are passed
fault_behind : (at : ℕ) (newline : Bool) (elements : List Element) (left : List ℕ) (fault : LexFault) → AreBefore elements left → LacksPiece (at + length (spelled elements)) left fault → lexemes_from 0 at newline (spelled elements ++ left) ≡ Err fault
fault_behind at newline [] left fault stand lacks =
    let place : at + 0 ≡ at = omega arith in
    let wrong = lacking_read at left fault (subst (λ (n : ℕ). LacksPiece n left fault) place lacks) in
    lexemes_from-wrong at newline left fault wrong.some wrong.read
fault_behind at newline (element ∷ elements) left fault stand lacks =
    let text = element.text in
    let behind = spelled elements ++ left in
    let read = stands_read element.kind text behind at stand.0 in
    let text_some = read.some in
    let whole_len = length-append text behind in
    let long : 0 < length (text ++ behind) = omega (arith, text_some, whole_len) in
    let place : at + length (text ++ spelled elements) ≡ at + length text + length (spelled elements) = omega (arith, length-append text (spelled elements)) in
    let more = fault_behind (at + length text) (newline_behind element.kind newline) elements left fault stand.1 (subst (λ (n : ℕ). LacksPiece n left fault) place lacks) in
    let cut = lexemes_from-piece at (length text) newline (text ++ behind) (record { kind = element.kind; end = at + length text }) long text_some refl read.read in
    let front = take_at text behind (length text) refl in
    let rest = drop_at text behind (length text) refl in
    ap (lexemes_from 0 at newline) (append_assoc text (spelled elements) left) ∙ rw (cut, front, rest, more) refl

pub fault_is_read : (source : List ℕ) (fault : LexFault) → HasFault source fault → lexemes source ≡ Err fault
unfolding lexemes
fault_is_read source fault has =
    let place : length (spelled has.elements) ≡ 0 + length (spelled has.elements) = omega arith in
    ap (lexemes_from 0 0 false) has.whole
    ∙ fault_behind 0 false has.elements has.left fault has.pieces (subst (λ (n : ℕ). LacksPiece n has.left fault) place has.lacks)
