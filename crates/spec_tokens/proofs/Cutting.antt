-- What is read stands.
use Rattle.std.proofs.Common.{◌≡◌, ℕ, zero, suc, ◌+◌, ◌-◌, ◌<◌, ◌≤◌, Bool, true, false, cond, eqb, ◌==◌, nat_eq, nat_le, nat_lt, ◌||◌, ◌&&◌, not, List, [], ◌∷◌, ◌++◌, length, take, drop, Option, Some, None, Result, Ok, Err, refl, sym, ap, subst, ◌∙◌, append_assoc, ◌⊎◌, ⊎_elim, inl, inr, arith}
use Rattle.std.specs.List.{list_all, list_any, prefix_len, starts_with}
use Rattle.std.proofs.lemmas.Bool.{cases_Bool, eq-eqb, eqb-true, false≢true, leb-true, ne_eqb, ltb-false, or_cases, and_parts}
use Rattle.std.proofs.lemmas.List.{take-append-drop, length-take, length-drop, length-append, take_at}
use Rattle.std.proofs.lemmas.List.Sums.{prefix_len-le-length}
use Rattle.spec_tokens.proofs.Runs.{prefix_len-all, prefix_len-stops}
use Rattle.spec_tokens.proofs.Texts.{text_end-item}
use Rattle.spec_tokens.specs.Byte.{is_blank, is_digit, is_hex, is_in_line, is_line_end, is_part, is_printable, is_quote, is_source, is_start}
use Rattle.spec_tokens.specs.Gap.{block_comment, comment_end, comment_kind, line_comment, line_end_len}
use Rattle.spec_tokens.specs.Number.{value_from, is_hexadecimal, is_number_tail, is_zero_first, largest, number, number_len, number_value}
use Rattle.spec_tokens.specs.Piece.{text, word}
use Rattle.spec_tokens.specs.Shape.{AreItems, IsCommentBody, IsDecimal, IsHexadecimal, IsItem, IsWord, Stands, Stops, is_tail, joined}
use Rattle.spec_tokens.specs.Text.{◌>>=◌, escape, escape_len, hex_escape, is_digit_first, item_len, single_escape, text_end}
use Rattle.spec_tokens.specs.Word.{is_reserved, word_kind}
use Rattle.spec_tokens.specs.declared.fault.LexFault.{LexFault}
use Rattle.spec_tokens.specs.declared.fault.LexFault.TheVariants.{BadByte, BigLiteral, Unclosed}
use Rattle.spec_tokens.specs.declared.piece.Escape.{Escape}
use Rattle.spec_tokens.specs.declared.piece.Piece.{Piece}
use Rattle.spec_tokens.specs.declared.piece.PieceKind.TheVariants.{Blank, LineEnd, Token}
use Rattle.spec_tokens.specs.declared.piece.TokenKind.TheVariants.{Number, Text}

-- the bytes begin with a text that stands, and the piece is that text
pub record IsCut (bytes : List ℕ) (at : ℕ) (found : Piece) : Type 0 where
  pub text : List ℕ
  pub rest : List ℕ
  pub whole : bytes ≡ text ++ rest
  pub some : 0 < length text
  pub end : found.end ≡ at + length text
  pub stands : Stands found.kind text rest

-- which way a test went
pub chosen : {A : Type 0} (b : Bool) (x y z : A) → cond b x y ≡ z → ((b ≡ true) × (x ≡ z)) ⊎ ((b ≡ false) × (y ≡ z))
chosen true x y z e = inl (refl, e)
chosen false x y z e = inr (refl, e)

-- a step that was taken
pub taken : {A B : Type 0} (r : Result A LexFault) (f : A → Result B LexFault) (y : B) → (r >>= f) ≡ Ok y → (x : A) × (r ≡ Ok x) × (f x ≡ Ok y)
taken (Ok x) f y e = (x, refl, e)
taken (Err fault) f y e = cc

-- what an answer holds
abbrev pub is_ok_piece : Piece → Result Piece LexFault
is_ok_piece x = Ok x

abbrev is_ok_nat : ℕ → Result ℕ LexFault
is_ok_nat x = Ok x

pub ok_is : (x y : Piece) → is_ok_piece x ≡ Ok y → x ≡ y
ok_is x y e = cc

ok_nat : (x y : ℕ) → is_ok_nat x ≡ Ok y → x ≡ y
ok_nat x y e = cc

pub some_is : (x y : Escape) → Some x ≡ Some y → x ≡ y
some_is x y e = cc

-- a piece of one byte
pub blank_cut : (at b : ℕ) (rest : List ℕ) (found : Piece) → is_blank b ≡ true → record { kind = Blank; end = at + 1 } ≡ found → IsCut (b ∷ rest) at found
blank_cut at b rest found is e =
    let P : Piece → Type 0 = λ p. IsCut (b ∷ rest) at p in
    subst P e (record { text = b ∷ []; rest = rest; whole = refl; some = omega arith; end = refl; stands = inl (b, is, refl) })

pub word_cut : (at b : ℕ) (bytes : List ℕ) (found : Piece) → is_start b ≡ true → is_part b ≡ true → word at (b ∷ bytes) ≡ found → IsCut (b ∷ bytes) at found
unfolding word word_kind
word_cut at b bytes found start part e =
    let n = prefix_len is_part bytes in
    let len : prefix_len is_part (b ∷ bytes) ≡ suc n = rw part (omega arith) in
    let P : Piece → Type 0 = λ p. IsCut (b ∷ bytes) at p in
    let fits = prefix_len-le-length is_part bytes in
    let text_len : length (take n bytes) ≡ n = omega (arith, length-take n bytes) in
    let is : IsWord (b ∷ take n bytes) (drop n bytes) = (start, prefix_len-all is_part bytes, prefix_len-stops is_part bytes) in
    let end : at + prefix_len is_part (b ∷ bytes) ≡ at + suc (length (take n bytes)) = omega arith in
    let whole : b ∷ bytes ≡ b ∷ (take n bytes ++ drop n bytes) = ap (λ t. b ∷ t) (sym (take-append-drop n bytes)) in
    subst P e
    (rw len
    (⊎_elim
    (λ (yes : is_reserved (b ∷ take n bytes) ≡ true). rw yes (record { text = b ∷ take n bytes; rest = drop n bytes; whole = whole; some = omega arith; end = omega arith; stands = (is, yes) }))
    (λ (other : is_reserved (b ∷ take n bytes) ≡ false). rw other (record { text = b ∷ take n bytes; rest = drop n bytes; whole = whole; some = omega arith; end = omega arith; stands = (is, other) }))
    (cases_Bool (is_reserved (b ∷ take n bytes)))))

line_end_cases : (b : ℕ) → is_line_end b ≡ true → (b ≡ 10) ⊎ (b ≡ 13)
unfolding is_line_end
line_end_cases b e = ⊎_elim (λ (feed : b == 10 ≡ true). inl (eqb-true b 10 feed)) (λ (return : b == 13 ≡ true). inr (eqb-true b 13 return)) (or_cases (b == 10) (b == 13) e)

return_cut : (at : ℕ) (bytes : List ℕ) → IsCut (13 ∷ bytes) at (record { kind = LineEnd; end = at + line_end_len (13 ∷ bytes) })
unfolding line_end_len
return_cut at [] = record { text = 13 ∷ []; rest = []; whole = refl; some = omega arith; end = refl; stands = inl (inr (inr (refl, tt))) }
return_cut at (c ∷ bytes) =
    ⊎_elim
    (λ (feed : c == 10 ≡ true). rw (eqb-true c 10 feed) (record { text = 13 ∷ 10 ∷ []; rest = bytes; whole = refl; some = omega arith; end = refl; stands = inl (inr (inl refl)) }))
    (λ (other : c == 10 ≡ false).
    let apart : eqb 10 c ≡ false = ne_eqb 10 c (λ same. false≢true (sym other ∙ eq-eqb c 10 (sym same))) in
    rw apart (record { text = 13 ∷ []; rest = c ∷ bytes; whole = refl; some = omega arith; end = refl; stands = inl (inr (inr (refl, other))) }))
    (cases_Bool (c == 10))

feed_cut : (at : ℕ) (bytes : List ℕ) → IsCut (10 ∷ bytes) at (record { kind = LineEnd; end = at + line_end_len (10 ∷ bytes) })
unfolding line_end_len
feed_cut at bytes = record { text = 10 ∷ []; rest = bytes; whole = refl; some = omega arith; end = refl; stands = inl (inl refl) }

pub line_end_cut : (at b : ℕ) (bytes : List ℕ) → is_line_end b ≡ true → IsCut (b ∷ bytes) at (record { kind = LineEnd; end = at + line_end_len (b ∷ bytes) })
line_end_cut at b bytes is =
    ⊎_elim
    (λ (feed : b ≡ 10). rw feed (feed_cut at bytes))
    (λ (return : b ≡ 13). rw return (return_cut at bytes))
    (line_end_cases b is)

-- numbers
hexadecimal_front : (bytes : List ℕ) → is_hexadecimal bytes ≡ true → IsHexadecimal (take (2 + prefix_len is_hex (drop 2 bytes)) bytes) × (2 ≤ length bytes)
unfolding is_hexadecimal
hexadecimal_front [] is = absurd (false≢true is)
hexadecimal_front (z ∷ []) is = absurd (false≢true is)
hexadecimal_front (z ∷ x ∷ []) is = absurd (false≢true is)
hexadecimal_front (z ∷ x ∷ t ∷ bytes) is =
    let last = and_parts (z == 48 && (x == 120 || x == 88)) (is_hex t) is in
    let first = and_parts (z == 48) (x == 120 || x == 88) last.0 in
    let len : 2 + prefix_len is_hex (t ∷ bytes) ≡ suc (suc (suc (prefix_len is_hex bytes))) = rw last.1 (omega arith) in
    rw len ((eqb-true z 48 first.0, first.1, (last.1, prefix_len-all is_hex bytes)), omega arith)

decimal_front : (b : ℕ) (bytes : List ℕ) → is_digit b ≡ true → b == 48 ≡ false → IsDecimal (take (prefix_len is_digit (b ∷ bytes)) (b ∷ bytes))
decimal_front b bytes digit other =
    let len : prefix_len is_digit (b ∷ bytes) ≡ suc (prefix_len is_digit bytes) = rw digit (omega arith) in
    rw len (digit, inr (other, prefix_len-all is_digit bytes))

pub number_front : (b : ℕ) (bytes : List ℕ) → is_digit b ≡ true → (IsHexadecimal (take (number_len (b ∷ bytes)) (b ∷ bytes)) ⊎ IsDecimal (take (number_len (b ∷ bytes)) (b ∷ bytes))) × (number_len (b ∷ bytes) ≤ length (b ∷ bytes))
unfolding number_len is_zero_first
number_front b bytes digit =
    ⊎_elim
    (λ (hex : is_hexadecimal (b ∷ bytes) ≡ true).
    let front = hexadecimal_front (b ∷ bytes) hex in
    let fits = prefix_len-le-length is_hex (drop 1 bytes) in
    let long = length-drop 1 bytes in
    rw hex (inl front.0, omega (arith, front.1, fits, long)))
    (λ (no_hex : is_hexadecimal (b ∷ bytes) ≡ false).
    ⊎_elim
    (λ (zero : b == 48 ≡ true). rw (no_hex, zero) (inr (digit, inl (eqb-true b 48 zero, refl)), omega arith))
    (λ (other : b == 48 ≡ false). rw (no_hex, other) (inr (decimal_front b bytes digit other), prefix_len-le-length is_digit (b ∷ bytes)))
    (cases_Bool (b == 48)))
    (cases_Bool (is_hexadecimal (b ∷ bytes)))

no_tail_stops : (rest : List ℕ) → is_number_tail rest ≡ false → Stops is_tail rest
unfolding is_number_tail
no_tail_stops [] e = tt
no_tail_stops (b ∷ rest) e = e

spelling_some : (text : List ℕ) → IsHexadecimal text ⊎ IsDecimal text → 0 < length text
spelling_some [] is = absurd (⊎_elim (λ (hex : ⊥). hex) (λ (decimal : ⊥). decimal) is)
spelling_some (b ∷ text) is = omega arith

pub number_cut : (at b : ℕ) (bytes : List ℕ) (found : Piece) → is_digit b ≡ true → number at (b ∷ bytes) ≡ Ok found → IsCut (b ∷ bytes) at found
unfolding number
number_cut at b bytes found digit e =
    let len = number_len (b ∷ bytes) in
    let front = number_front b bytes digit in
    let text_len : length (take len (b ∷ bytes)) ≡ len = omega (arith, length-take len (b ∷ bytes), front.1) in
    let P : Piece → Type 0 = λ p. IsCut (b ∷ bytes) at p in
    ⊎_elim
    (λ (large : (nat_lt largest (number_value (take len (b ∷ bytes))) ≡ true) × (Err (BigLiteral at) ≡ Ok found)). cc)
    (λ (small : (nat_lt largest (number_value (take len (b ∷ bytes))) ≡ false) × (cond (is_number_tail (drop len (b ∷ bytes))) (Err (BadByte (at + len))) (Ok (record { kind = Token Number; end = at + len })) ≡ Ok found)).
    ⊎_elim
    (λ (tail : (is_number_tail (drop len (b ∷ bytes)) ≡ true) × (Err (BadByte (at + len)) ≡ Ok found)). cc)
    (λ (whole : (is_number_tail (drop len (b ∷ bytes)) ≡ false) × (Ok (record { kind = Token Number; end = at + len }) ≡ Ok found)).
    let same : record { kind = Token Number; end = at + len } ≡ found = cc in
    subst P same (record { text = take len (b ∷ bytes); rest = drop len (b ∷ bytes); whole = sym (take-append-drop len (b ∷ bytes)); some = spelling_some (take len (b ∷ bytes)) front.0; end = omega arith; stands = (front.0, ltb-false largest (number_value (take len (b ∷ bytes))) small.0, no_tail_stops (drop len (b ∷ bytes)) whole.0) }))
    (chosen (is_number_tail (drop len (b ∷ bytes))) (Err (BadByte (at + len))) (Ok (record { kind = Token Number; end = at + len })) (Ok found) small.1))
    (chosen (nat_lt largest (number_value (take len (b ∷ bytes)))) (Err (BigLiteral at)) (cond (is_number_tail (drop len (b ∷ bytes))) (Err (BadByte (at + len))) (Ok (record { kind = Token Number; end = at + len }))) (Ok found) e)

-- comments
record IsBody (bytes : List ℕ) (at end : ℕ) : Type 0 where
  body : List ℕ
  rest : List ℕ
  whole : bytes ≡ body ++ rest
  end_is : end ≡ at + length body
  is : IsCommentBody body

pub two_front : (x y : ℕ) (bytes : List ℕ) → starts_with nat_eq bytes (x ∷ y ∷ []) ≡ true → (rest : List ℕ) × (bytes ≡ x ∷ y ∷ rest)
two_front x y [] e = absurd (false≢true e)
two_front x y (a ∷ []) e = let parts = and_parts (eqb x a) false e in absurd (false≢true parts.1)
two_front x y (a ∷ b ∷ rest) e =
    let parts = and_parts (eqb x a) (eqb y b && true) e in
    let last = and_parts (eqb y b) true parts.1 in
    let first : x ≡ a = eqb-true x a parts.0 in
    let second : y ≡ b = eqb-true y b last.0 in
    (rest, cc)

body_goes_on : (b : ℕ) (bytes rest : List ℕ) → IsCommentBody bytes → starts_with nat_eq (b ∷ (bytes ++ rest)) (42 ∷ 47 ∷ []) ≡ false → starts_with nat_eq (b ∷ bytes) (42 ∷ 47 ∷ []) ≡ false
body_goes_on b [] rest body apart = absurd body
body_goes_on b (c ∷ bytes) rest body apart = apart

body_cut : (start at end : ℕ) (bytes : List ℕ) → comment_end start at bytes ≡ Ok end → IsBody bytes at end
unfolding comment_end
body_cut start at end [] e = cc
body_cut start at end (b ∷ bytes) e =
    ⊎_elim
    (λ (closed : (starts_with nat_eq (b ∷ bytes) (42 ∷ 47 ∷ []) ≡ true) × (Ok (at + 2) ≡ Ok end)).
    let front = two_front 42 47 (b ∷ bytes) closed.0 in
    let place : at + 2 ≡ end = cc in
    record { body = 42 ∷ 47 ∷ []; rest = front.0; whole = front.1; end_is = sym place; is = inl refl })
    (λ (more : (starts_with nat_eq (b ∷ bytes) (42 ∷ 47 ∷ []) ≡ false) × (cond (is_source b) (comment_end start (at + 1) bytes) (Err (BadByte at)) ≡ Ok end)).
    ⊎_elim
    (λ (source : (is_source b ≡ true) × (comment_end start (at + 1) bytes ≡ Ok end)).
    let behind = body_cut start (at + 1) end bytes source.1 in
    let apart = subst (λ (t : List ℕ). starts_with nat_eq (b ∷ t) (42 ∷ 47 ∷ []) ≡ false) behind.whole more.0 in
    record { body = b ∷ behind.body; rest = behind.rest; whole = ap (λ t. b ∷ t) behind.whole; end_is = omega (arith, behind.end_is); is = inr (body_goes_on b behind.body behind.rest behind.is apart, source.0, behind.is) })
    (λ (bad : (is_source b ≡ false) × (Err (BadByte at) ≡ Ok end)). cc)
    (chosen (is_source b) (comment_end start (at + 1) bytes) (Err (BadByte at)) (Ok end) more.1))
    (chosen (starts_with nat_eq (b ∷ bytes) (42 ∷ 47 ∷ [])) (Ok (at + 2)) (cond (is_source b) (comment_end start (at + 1) bytes) (Err (BadByte at))) (Ok end) e)

pub block_comment_cut : (at : ℕ) (bytes : List ℕ) (found : Piece) → starts_with nat_eq bytes (47 ∷ 42 ∷ []) ≡ true → block_comment at bytes ≡ Ok found → IsCut bytes at found
unfolding block_comment comment_kind
block_comment_cut at bytes found opens e =
    let front = two_front 47 42 bytes opens in
    let rest = front.0 in
    let Q : List ℕ → Type 0 = λ t. (comment_end at (at + 2) (drop 2 t) >>= λ end. Ok (record { kind = comment_kind (take (end - at) t); end = end })) ≡ Ok found in
    let Goal : List ℕ → Type 0 = λ t. IsCut t at found in
    let step = taken (comment_end at (at + 2) rest) (λ end. Ok (record { kind = comment_kind (take (end - at) (47 ∷ 42 ∷ rest)); end = end })) found (subst Q front.1 e) in
    let body = body_cut at (at + 2) step.0 rest step.1 in
    let len : step.0 - at ≡ suc (suc (length body.body)) = omega (arith, body.end_is) in
    let text_is : take (step.0 - at) (47 ∷ 42 ∷ rest) ≡ 47 ∷ 42 ∷ body.body = rw len (ap (λ t. 47 ∷ 42 ∷ t) (ap (take (length body.body)) body.whole ∙ take_at body.body body.rest (length body.body) refl)) in
    let found_is : record { kind = comment_kind (take (step.0 - at) (47 ∷ 42 ∷ rest)); end = step.0 } ≡ found = ok_is _ found step.2 in
    let P : Piece → Type 0 = λ p. IsCut (47 ∷ 42 ∷ rest) at p in
    subst Goal (sym front.1)
    (subst P found_is
    (rw text_is
    (⊎_elim
    (λ (holds : list_any is_line_end (47 ∷ 42 ∷ body.body) ≡ true). rw holds (record { text = 47 ∷ 42 ∷ body.body; rest = body.rest; whole = ap (λ t. 47 ∷ 42 ∷ t) body.whole; some = omega arith; end = omega (arith, body.end_is); stands = inr ((body.body, refl, body.is), holds) }))
    (λ (lacks : list_any is_line_end (47 ∷ 42 ∷ body.body) ≡ false). rw lacks (record { text = 47 ∷ 42 ∷ body.body; rest = body.rest; whole = ap (λ t. 47 ∷ 42 ∷ t) body.whole; some = omega arith; end = omega (arith, body.end_is); stands = inr (inr ((body.body, refl, body.is), lacks)) }))
    (cases_Bool (list_any is_line_end (47 ∷ 42 ∷ body.body))))))

pub line_comment_cut : (at : ℕ) (bytes : List ℕ) (found : Piece) → starts_with nat_eq bytes (47 ∷ 47 ∷ []) ≡ true → line_comment at bytes ≡ found → IsCut bytes at found
unfolding line_comment
line_comment_cut at bytes found opens e =
    let front = two_front 47 47 bytes opens in
    let rest = front.0 in
    let n = prefix_len is_in_line rest in
    let fits = prefix_len-le-length is_in_line rest in
    let text_len : length (take n rest) ≡ n = omega (arith, length-take n rest) in
    let Goal : List ℕ → Type 0 = λ t. IsCut t at (line_comment at t) in
    let P : Piece → Type 0 = λ p. IsCut bytes at p in
    subst P e
    (subst Goal (sym front.1)
    (record { text = 47 ∷ 47 ∷ take n rest; rest = drop n rest; whole = ap (λ t. 47 ∷ 47 ∷ t) (sym (take-append-drop n rest)); some = omega arith; end = omega arith; stands = inr (inl (take n rest, refl, prefix_len-all is_in_line rest, prefix_len-stops is_in_line rest)) }))

-- texts
hex_fits : (count : ℕ) (bytes : List ℕ) (found : Escape) → hex_escape count bytes ≡ Some found → found.len ≤ suc (length bytes)
unfolding hex_escape
hex_fits count bytes found e =
    ⊎_elim
    (λ (yes : ((nat_le count (length bytes) && list_all is_hex (take count bytes) && nat_lt (value_from 16 0 (take count bytes)) 256) ≡ true) × (Some (record { unit = value_from 16 0 (take count bytes); len = suc count }) ≡ Some found)).
    let outer = and_parts (nat_le count (length bytes) && list_all is_hex (take count bytes)) (nat_lt (value_from 16 0 (take count bytes)) 256) yes.0 in
    let inner = and_parts (nat_le count (length bytes)) (list_all is_hex (take count bytes)) outer.0 in
    let fits = leb-true count (length bytes) inner.0 in
    let len : suc count ≡ found.len = ap (λ (escape : Escape). escape.len) (some_is _ found yes.1) in
    omega (arith, fits, len))
    (λ (other : ((nat_le count (length bytes) && list_all is_hex (take count bytes) && nat_lt (value_from 16 0 (take count bytes)) 256) ≡ false) × (None ≡ Some found)). cc)
    (chosen (nat_le count (length bytes) && list_all is_hex (take count bytes) && nat_lt (value_from 16 0 (take count bytes)) 256) (Some (record { unit = value_from 16 0 (take count bytes); len = suc count })) None (Some found) e)

one_fits : (unit : ℕ) (bytes : List ℕ) (found : Escape) → Some (record { unit = unit; len = 1 }) ≡ Some found → found.len ≤ suc (length bytes)
one_fits unit bytes found e =
    let len : 1 ≡ found.len = ap (λ (escape : Escape). escape.len) (some_is _ found e) in omega (arith, len)

-- what an escape of neither x nor u may be
other_fits : (b : ℕ) (bytes : List ℕ) (nul wrong : Bool) (found : Escape) → cond nul (Some (record { unit = 0; len = 1 })) (cond wrong None (Some (record { unit = single_escape b; len = 1 }))) ≡ Some found → found.len ≤ suc (length bytes)
other_fits b bytes true wrong found e = one_fits 0 bytes found e
other_fits b bytes false true found e = cc
other_fits b bytes false false found e = one_fits (single_escape b) bytes found e

hex_or_other : (b : ℕ) (bytes : List ℕ) (x u nul wrong : Bool) (found : Escape) → cond x (hex_escape 2 bytes) (cond u (hex_escape 4 bytes) (cond nul (Some (record { unit = 0; len = 1 })) (cond wrong None (Some (record { unit = single_escape b; len = 1 }))))) ≡ Some found → found.len ≤ suc (length bytes)
hex_or_other b bytes true u nul wrong found e = hex_fits 2 bytes found e
hex_or_other b bytes false true nul wrong found e = hex_fits 4 bytes found e
hex_or_other b bytes false false nul wrong found e = other_fits b bytes nul wrong found e

escape_fits : (bytes : List ℕ) (found : Escape) → escape bytes ≡ Some found → found.len ≤ length bytes
unfolding escape
escape_fits [] found e = cc
escape_fits (b ∷ bytes) found e = hex_or_other b bytes (b == 120) (b == 117) (b == 48 && not (is_digit_first bytes)) (is_digit b || not (is_printable b)) found e

-- an item at the front
pub record IsItemFront (quote : ℕ) (bytes : List ℕ) (len : ℕ) : Type 0 where
  pub some : 0 < len
  pub fits : len ≤ length bytes
  pub is : IsItem quote (take len bytes) (drop len bytes)

escape_item : (quote at : ℕ) (bytes : List ℕ) (len : ℕ) (o : Option Escape) → 92 == quote ≡ false → escape bytes ≡ o → escape_len at o ≡ Ok len → IsItemFront quote (92 ∷ bytes) len
escape_item quote at bytes len None other read e = cc
escape_item quote at bytes len (Some found) other read e =
    let fits = escape_fits bytes found read in
    let same : 1 + found.len ≡ len = ok_nat _ len e in
    let len_is : len ≡ suc found.len = omega (arith, same) in
    let text_len : length (take found.len bytes) ≡ found.len = omega (arith, fits, length-take found.len bytes) in
    let again : escape (take found.len bytes ++ drop found.len bytes) ≡ Some (record { unit = found.unit; len = length (take found.len bytes) }) = ap escape (take-append-drop found.len bytes) ∙ read ∙ rw text_len refl in
    rw len_is (record { some = omega arith; fits = omega (arith, fits); is = (other, inr (refl, found.unit, again)) })

pub item_cut : (quote start at len b : ℕ) (bytes : List ℕ) → b == quote ≡ false → item_len start at (b ∷ bytes) ≡ Ok len → IsItemFront quote (b ∷ bytes) len
unfolding item_len
item_cut quote start at len b bytes other e =
    ⊎_elim
    (λ (escaped : (b == 92 ≡ true) × (escape_len at (escape bytes) ≡ Ok len)).
    let is = eqb-true b 92 escaped.0 in
    let Q : ℕ → Type 0 = λ n. n == quote ≡ false in
    rw is (escape_item quote at bytes len (escape bytes) (subst Q is other) refl escaped.1))
    (λ (plain : (b == 92 ≡ false) × (cond (is_line_end b) (Err (Unclosed start)) (cond (is_in_line b) (Ok 1) (Err (BadByte at))) ≡ Ok len)).
    ⊎_elim
    (λ (ended : (is_line_end b ≡ true) × (Err (Unclosed start) ≡ Ok len)). cc)
    (λ (inside : (is_line_end b ≡ false) × (cond (is_in_line b) (Ok 1) (Err (BadByte at)) ≡ Ok len)).
    ⊎_elim
    (λ (one : (is_in_line b ≡ true) × (Ok 1 ≡ Ok len)).
    let len_is : len ≡ 1 = sym (ok_nat 1 len one.1) in
    rw len_is (record { some = omega arith; fits = omega arith; is = (other, inl (plain.0, inside.0, one.0, refl)) }))
    (λ (bad : (is_in_line b ≡ false) × (Err (BadByte at) ≡ Ok len)). cc)
    (chosen (is_in_line b) (Ok 1) (Err (BadByte at)) (Ok len) inside.1))
    (chosen (is_line_end b) (Err (Unclosed start)) (cond (is_in_line b) (Ok 1) (Err (BadByte at))) (Ok len) plain.1))
    (chosen (b == 92) (escape_len at (escape bytes)) (cond (is_line_end b) (Err (Unclosed start)) (cond (is_in_line b) (Ok 1) (Err (BadByte at)))) (Ok len) e)

-- the items of a text up to its end
record IsItems (quote : ℕ) (bytes : List ℕ) (at end : ℕ) : Type 0 where
  items : List (List ℕ)
  rest : List ℕ
  whole : bytes ≡ joined items ++ quote ∷ rest
  are : AreItems quote items (quote ∷ rest)
  end_is : end ≡ at + length (joined items) + 1

items_cut : (fuel quote start at end : ℕ) (bytes : List ℕ) → length bytes ≤ fuel → text_end quote start 0 at bytes ≡ Ok end → IsItems quote bytes at end
unfolding text_end
items_cut fuel quote start at end [] short e = cc
items_cut zero quote start at end (b ∷ bytes) short e = absurd (omega arith)
items_cut (suc fuel) quote start at end (b ∷ bytes) short e =
    ⊎_elim
    (λ (closed : (b == quote ≡ true) × (Ok (at + 1) ≡ Ok end)).
    let place : at + 1 ≡ end = ok_nat _ end closed.1 in
    record { items = []; rest = bytes; whole = ap (λ q. q ∷ bytes) (eqb-true b quote closed.0); are = tt; end_is = omega (arith, place) })
    (λ (more : (b == quote ≡ false) × ((item_len start at (b ∷ bytes) >>= λ len. text_end quote start (len - 1) (at + 1) bytes) ≡ Ok end)).
    let step = taken (item_len start at (b ∷ bytes)) (λ len. text_end quote start (len - 1) (at + 1) bytes) end more.1 in
    let len = step.0 in
    let front = item_cut quote start at len b bytes more.0 step.1 in
    let item = take len (b ∷ bytes) in
    let behind = drop len (b ∷ bytes) in
    let long : 0 < length (b ∷ bytes) = omega arith in
    let other : b ≡ quote → ⊥ = λ same. false≢true (sym more.0 ∙ eq-eqb b quote same) in
    let on = text_end-item quote start at len (b ∷ bytes) long other front.some step.1 in
    let whole_e : text_end quote start 0 at (b ∷ bytes) ≡ Ok end = e in
    let rest_short : length behind ≤ fuel = omega (arith, length-drop len (b ∷ bytes), front.some) in
    let later = items_cut fuel quote start (at + len) end behind rest_short (sym on ∙ whole_e) in
    let item_is : IsItem quote item (joined later.items ++ quote ∷ later.rest) = subst (λ (t : List ℕ). IsItem quote item t) later.whole front.is in
    let item_len_is : length item ≡ len = omega (arith, length-take len (b ∷ bytes), front.fits) in
    record {
      items = item ∷ later.items;
      rest = later.rest;
      whole = sym (take-append-drop len (b ∷ bytes)) ∙ ap (λ t. item ++ t) later.whole ∙ sym (append_assoc item (joined later.items) (quote ∷ later.rest));
      are = (item_is, later.are);
      end_is = omega (arith, later.end_is, item_len_is, length-append item (joined later.items));
    })
    (chosen (b == quote) (Ok (at + 1)) (item_len start at (b ∷ bytes) >>= λ len. text_end quote start (len - 1) (at + 1) bytes) (Ok end) e)

pub text_cut : (at quote : ℕ) (bytes : List ℕ) (found : Piece) → is_quote quote ≡ true → text at (quote ∷ bytes) ≡ Ok found → IsCut (quote ∷ bytes) at found
unfolding text
text_cut at quote bytes found is e =
    let step = taken (text_end quote at 0 (at + 1) bytes) (λ end. Ok (record { kind = Token Text; end = end })) found e in
    let cut = items_cut (length bytes) quote at (at + 1) step.0 bytes (omega arith) step.1 in
    let found_is = ok_is (record { kind = Token Text; end = step.0 }) found step.2 in
    let P : Piece → Type 0 = λ p. IsCut (quote ∷ bytes) at p in
    subst P found_is
    (record {
      text = quote ∷ (joined cut.items ++ quote ∷ []);
      rest = cut.rest;
      whole = ap (λ t. quote ∷ t) (cut.whole ∙ sym (append_assoc (joined cut.items) (quote ∷ []) cut.rest));
      some = omega arith;
      end = omega (arith, cut.end_is, length-append (joined cut.items) (quote ∷ []));
      stands = (quote, cut.items, is, cut.are, refl);
    })
