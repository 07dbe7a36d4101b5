-- Words, numbers, gaps and texts that stand at the front are read.
use Rattle.std.proofs.Common.{◌≡◌, ℕ, suc, ◌+◌, ◌-◌, true, false, eqb, ◌==◌, nat_eq, List, [], ◌∷◌, ◌++◌, length, Some, Ok, refl, sym, ap, ◌∙◌, append_assoc, ◌⊎◌, ⊎_elim, inl, inr, arith}
use Rattle.std.specs.List.{starts_with}
use Rattle.std.proofs.lemmas.Bool.{eq-eqb, false≢true, le-ltb, ne_eqb}
use Rattle.std.proofs.lemmas.List.{take_at, drop_at, length-append}
use Rattle.spec_tokens.proofs.Classes.{start_excludes, digit_excludes, quote_excludes, blank_excludes, tail_excludes}
use Rattle.spec_tokens.proofs.Gaps.{comment_end-closed, comment_end-more}
use Rattle.spec_tokens.proofs.Runs.{prefix_len-run}
use Rattle.spec_tokens.proofs.Texts.{text_end-quote, text_end-item}
use Rattle.spec_tokens.specs.Byte.{is_blank, is_digit, is_hex, is_in_line, is_line_end, is_part, is_quote, is_start}
use Rattle.spec_tokens.specs.Gap.{block_comment, comment_end, comment_kind, line_comment, line_end_len}
use Rattle.spec_tokens.specs.Number.{is_hexadecimal, is_number_tail, is_zero_first, largest, number, number_len, number_value}
use Rattle.spec_tokens.specs.Piece.{piece, plain_piece, text, word}
use Rattle.spec_tokens.specs.Shape.{AllAre, AreItems, IsCommentBody, IsDecimal, IsHexadecimal, IsItem, IsNumber, Stops, is_tail, joined}
use Rattle.spec_tokens.specs.Text.{◌>>=◌, escape, item_len, text_end}
use Rattle.spec_tokens.specs.Word.{word_kind}
use Rattle.spec_tokens.specs.declared.piece.PieceKind.TheVariants.{Blank, LineEnd, Token}
use Rattle.spec_tokens.specs.declared.piece.TokenKind.TheVariants.{Number, Text}

-- only a slash begins a comment
pub piece-plain : (at b : ℕ) (bytes : List ℕ) → eqb 47 b ≡ false → piece at (b ∷ bytes) ≡ plain_piece at (b ∷ bytes)
unfolding piece
piece-plain at b bytes e = rw e refl

pub piece-blank : (at b : ℕ) (rest : List ℕ) → is_blank b ≡ true → piece at (b ∷ rest) ≡ Ok (record { kind = Blank; end = at + 1 })
unfolding plain_piece
piece-blank at b rest e = piece-plain at b rest (blank_excludes b e) ∙ rw e refl

pub piece-word : (at b : ℕ) (bytes rest : List ℕ) → is_start b ≡ true → AllAre is_part (b ∷ bytes) → Stops is_part rest → piece at (b ∷ bytes ++ rest) ≡ Ok (record { kind = Token (word_kind (b ∷ bytes)); end = at + length (b ∷ bytes) })
unfolding plain_piece word
piece-word at b bytes rest start all stops =
    let apart = start_excludes b start in
    let run = prefix_len-run is_part (b ∷ bytes) rest all stops in
    let front = take_at (b ∷ bytes) rest (length (b ∷ bytes)) refl in
    piece-plain at b (bytes ++ rest) apart.slash ∙ rw (apart.blank, apart.line_end, start, run, front) refl

-- numbers
stops_hex : (rest : List ℕ) → Stops is_tail rest → Stops is_hex rest
stops_hex [] stops = tt
stops_hex (b ∷ rest) stops = (tail_excludes b stops).hex

stops_digit : (rest : List ℕ) → Stops is_tail rest → Stops is_digit rest
stops_digit [] stops = tt
stops_digit (b ∷ rest) stops = (tail_excludes b stops).digit

no_tail : (rest : List ℕ) → Stops is_tail rest → is_number_tail rest ≡ false
unfolding is_number_tail
no_tail [] stops = refl
no_tail (b ∷ rest) stops = stops

pub not_zero_first : (d : ℕ) (more : List ℕ) → d == 48 ≡ false → is_hexadecimal (d ∷ more) ≡ false
unfolding is_hexadecimal
not_zero_first d [] other = refl
not_zero_first d (x ∷ []) other = refl
not_zero_first d (x ∷ t ∷ more) other = rw other refl

zero_alone : (rest : List ℕ) → Stops is_tail rest → is_hexadecimal (48 ∷ rest) ≡ false
unfolding is_hexadecimal
zero_alone [] stops = refl
zero_alone (x ∷ []) stops = refl
zero_alone (x ∷ t ∷ rest) stops = rw (tail_excludes x stops).mark refl

hex_len_is : (text rest : List ℕ) → IsHexadecimal text → Stops is_tail rest → number_len (text ++ rest) ≡ length text
unfolding number_len is_hexadecimal
hex_len_is [] rest hex stops = absurd hex
hex_len_is (z ∷ []) rest hex stops = absurd hex
hex_len_is (z ∷ x ∷ []) rest hex stops = absurd hex
hex_len_is (z ∷ x ∷ t ∷ digits) rest hex stops =
    let run = prefix_len-run is_hex digits rest hex.2.1 (stops_hex rest stops) in
    let zero : z == 48 ≡ true = rw hex.0 refl in
    let one : is_hex t ≡ true = hex.2.0 in
    rw (zero, hex.1, one, run) (omega arith)

decimal_len_is : (text rest : List ℕ) → IsDecimal text → Stops is_tail rest → number_len (text ++ rest) ≡ length text
unfolding number_len is_zero_first
decimal_len_is [] rest decimal stops = absurd decimal
decimal_len_is (b ∷ bytes) rest decimal stops =
    ⊎_elim
    (λ (alone : (b ≡ 48) × (bytes ≡ [])). rw (alone.0, alone.1, zero_alone rest stops) refl)
    (λ (more : (b == 48 ≡ false) × AllAre is_digit bytes).
    let run = prefix_len-run is_digit (b ∷ bytes) rest (decimal.0, more.1) (stops_digit rest stops) in
    rw (not_zero_first b (bytes ++ rest) more.0, more.0, run) refl)
    decimal.1

pub number_len_is : (text rest : List ℕ) → IsHexadecimal text ⊎ IsDecimal text → Stops is_tail rest → number_len (text ++ rest) ≡ length text
number_len_is text rest spelling stops =
    ⊎_elim (λ (hex : IsHexadecimal text). hex_len_is text rest hex stops) (λ (decimal : IsDecimal text). decimal_len_is text rest decimal stops) spelling

-- the first byte of a number is a digit
pub number_first : (b : ℕ) (bytes : List ℕ) → IsHexadecimal (b ∷ bytes) ⊎ IsDecimal (b ∷ bytes) → is_digit b ≡ true
unfolding is_digit
number_first b [] (inl hex) = absurd hex
number_first b (x ∷ []) (inl hex) = absurd hex
number_first b (x ∷ t ∷ bytes) (inl hex) = rw hex.0 refl
number_first b bytes (inr decimal) = decimal.0

pub piece-number : (at b : ℕ) (bytes rest : List ℕ) → IsNumber (b ∷ bytes) rest → piece at (b ∷ bytes ++ rest) ≡ Ok (record { kind = Token Number; end = at + length (b ∷ bytes) })
unfolding plain_piece number
piece-number at b bytes rest is =
    let digit = number_first b bytes is.0 in
    let apart = digit_excludes b digit in
    let len = number_len_is (b ∷ bytes) rest is.0 is.2 in
    let front = take_at (b ∷ bytes) rest (length (b ∷ bytes)) refl in
    let behind = drop_at (b ∷ bytes) rest (length (b ∷ bytes)) refl in
    piece-plain at b (bytes ++ rest) apart.slash ∙ rw (apart.blank, apart.line_end, apart.start, digit, len, front, behind, le-ltb largest (number_value (b ∷ bytes)) is.1, no_tail rest is.2) refl

-- texts
item_len_is : (quote start at : ℕ) (item behind : List ℕ) → IsItem quote item behind → item_len start at (item ++ behind) ≡ Ok (length item)
unfolding item_len
item_len_is quote start at [] behind is = absurd is
item_len_is quote start at (b ∷ bytes) behind is =
    ⊎_elim
    (λ (plain : (b == 92 ≡ false) × (is_line_end b ≡ false) × (is_in_line b ≡ true) × (bytes ≡ [])). rw (plain.0, plain.1, plain.2, plain.3) refl)
    (λ (escaped : (b ≡ 92) × (unit : ℕ) × (escape (bytes ++ behind) ≡ Some (record { unit = unit; len = length bytes }))). rw (escaped.0, escaped.2) (ap Ok (omega arith)))
    is.1

-- items are passed
pub text_end-passes : (quote start at : ℕ) (items : List (List ℕ)) (rest : List ℕ) → AreItems quote items rest → text_end quote start 0 at (joined items ++ rest) ≡ text_end quote start 0 (at + length (joined items)) rest
text_end-passes quote start at [] rest are = ap (λ n. text_end quote start 0 n rest) (omega arith)
text_end-passes quote start at ([] ∷ items) rest are = absurd are.0
text_end-passes quote start at ((b ∷ bytes) ∷ items) rest are =
    let behind = joined items ++ rest in
    let len = item_len_is quote start at (b ∷ bytes) behind are.0 in
    let other : b ≡ quote → ⊥ = λ same. false≢true (sym are.0.0 ∙ eq-eqb b quote same) in
    let step = text_end-item quote start at (length (b ∷ bytes)) (b ∷ bytes ++ behind) (omega arith) other (omega arith) len in
    let more = text_end-passes quote start (at + length (b ∷ bytes)) items rest are.1 in
    let front_len = length-append bytes (joined items) in
    ap (text_end quote start 0 at) (append_assoc (b ∷ bytes) (joined items) rest) ∙ step
    ∙ ap (text_end quote start 0 (at + length (b ∷ bytes))) (drop_at (b ∷ bytes) behind (length (b ∷ bytes)) refl) ∙ more ∙ ap (λ n. text_end quote start 0 n rest) (omega (arith, front_len))

text_end-items : (quote start at : ℕ) (items : List (List ℕ)) (rest : List ℕ) → AreItems quote items (quote ∷ rest) → text_end quote start 0 at (joined items ++ quote ∷ rest) ≡ Ok (at + length (joined items) + 1)
text_end-items quote start at items rest are =
    text_end-passes quote start at items (quote ∷ rest) are ∙ text_end-quote quote start (at + length (joined items)) (quote ∷ rest) (omega arith) refl

-- a quote begins a text
pub piece-quote : (at quote : ℕ) (bytes : List ℕ) → is_quote quote ≡ true → piece at (quote ∷ bytes) ≡ (text_end quote at 0 (at + 1) bytes >>= λ end. Ok (record { kind = Token Text; end = end }))
unfolding plain_piece text
piece-quote at quote bytes is =
    let apart = quote_excludes quote is in
    piece-plain at quote bytes apart.slash ∙ rw (apart.blank, apart.line_end, apart.start, apart.digit, is) refl

pub piece-text : (at quote : ℕ) (items : List (List ℕ)) (rest : List ℕ) → is_quote quote ≡ true → AreItems quote items (quote ∷ rest) → piece at (quote ∷ (joined items ++ quote ∷ []) ++ rest) ≡ Ok (record { kind = Token Text; end = at + length (quote ∷ (joined items ++ quote ∷ [])) })
unfolding plain_piece text
piece-text at quote items rest is are =
    let apart = quote_excludes quote is in
    let end = text_end-items quote at (at + 1) items rest are in
    let behind = append_assoc (joined items) (quote ∷ []) rest in
    let all_len = length-append (joined items) (quote ∷ []) in
    let place : at + 1 + length (joined items) + 1 ≡ at + suc (length (joined items ++ quote ∷ [])) = omega (arith, all_len) in
    piece-plain at quote ((joined items ++ quote ∷ []) ++ rest) apart.slash
    ∙ rw (apart.blank, apart.line_end, apart.start, apart.digit, is, behind, end, place) refl

-- comments
comment_goes_on : (b : ℕ) (bytes rest : List ℕ) → IsCommentBody bytes → starts_with nat_eq (b ∷ bytes) (42 ∷ 47 ∷ []) ≡ false → starts_with nat_eq (b ∷ bytes ++ rest) (42 ∷ 47 ∷ []) ≡ false
comment_goes_on b [] rest body apart = absurd body
comment_goes_on b (c ∷ bytes) rest body apart = apart

comment_end-body : (start at : ℕ) (body rest : List ℕ) → IsCommentBody body → comment_end start at (body ++ rest) ≡ Ok (at + length body)
comment_end-body start at [] rest is = absurd is
comment_end-body start at (b ∷ bytes) rest (inl closed) = ap (λ body. comment_end start at (body ++ rest)) closed ∙ comment_end-closed start at (42 ∷ 47 ∷ rest) refl ∙ ap (λ body. Ok (at + length body)) (sym closed)
comment_end-body start at (b ∷ bytes) rest (inr more) =
    comment_end-more start at (b ∷ bytes ++ rest) (omega arith) (comment_goes_on b bytes rest more.2 more.0) more.1
    ∙ comment_end-body start (at + 1) bytes rest more.2 ∙ ap Ok (omega arith)

pub piece-block_comment : (at : ℕ) (body rest : List ℕ) → IsCommentBody body → piece at (47 ∷ 42 ∷ body ++ rest) ≡ Ok (record { kind = comment_kind (47 ∷ 42 ∷ body); end = at + length (47 ∷ 42 ∷ body) })
unfolding piece block_comment
piece-block_comment at body rest is =
    let end = comment_end-body at (at + 2) body rest is in
    let place : at + 2 + length body ≡ at + length (47 ∷ 42 ∷ body) = omega arith in
    let len : at + length (47 ∷ 42 ∷ body) - at ≡ length (47 ∷ 42 ∷ body) = omega arith in
    let front = take_at (47 ∷ 42 ∷ body) rest (length (47 ∷ 42 ∷ body)) refl in
    rw (end, place, len, front) refl

pub piece-line_comment : (at : ℕ) (body rest : List ℕ) → AllAre is_in_line body → Stops is_in_line rest → piece at (47 ∷ 47 ∷ body ++ rest) ≡ Ok (record { kind = Blank; end = at + length (47 ∷ 47 ∷ body) })
unfolding piece line_comment
piece-line_comment at body rest all stops =
    let run = prefix_len-run is_in_line body rest all stops in
    let place : at + 2 + length body ≡ at + length (47 ∷ 47 ∷ body) = omega arith in
    rw (run, place) refl

-- line ends
pub piece-line_feed : (at : ℕ) (rest : List ℕ) → piece at (10 ∷ rest) ≡ Ok (record { kind = LineEnd; end = at + 1 })
unfolding plain_piece is_blank is_line_end line_end_len
piece-line_feed at rest = piece-plain at 10 rest refl ∙ refl

pub piece-both : (at : ℕ) (rest : List ℕ) → piece at (13 ∷ 10 ∷ rest) ≡ Ok (record { kind = LineEnd; end = at + 2 })
unfolding plain_piece is_blank is_line_end line_end_len
piece-both at rest = piece-plain at 13 (10 ∷ rest) refl ∙ refl

pub piece-return : (at : ℕ) (rest : List ℕ) → Stops (λ b. b == 10) rest → piece at (13 ∷ rest) ≡ Ok (record { kind = LineEnd; end = at + 1 })
unfolding plain_piece is_blank is_line_end line_end_len
piece-return at [] stops = piece-plain at 13 [] refl ∙ refl
piece-return at (b ∷ rest) stops =
    let other : eqb 10 b ≡ false = ne_eqb 10 b (λ same. false≢true (sym stops ∙ eq-eqb b 10 (sym same))) in
    piece-plain at 13 (b ∷ rest) refl ∙ rw other refl
