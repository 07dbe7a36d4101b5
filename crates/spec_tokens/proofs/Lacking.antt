-- Where no piece is read, one is lacking, and the fault is that one.
use Rattle.std.proofs.Common.{◌≡◌, ℕ, zero, suc, ◌+◌, ◌-◌, ◌<◌, ◌≤◌, Bool, true, false, cond, ◌==◌, nat_eq, nat_lt, List, [], ◌∷◌, ◌++◌, length, take, drop, Option, Some, None, Result, Ok, Err, refl, sym, ap, subst, ◌∙◌, append_assoc, ◌⊎◌, ⊎_elim, inl, inr, arith}
use Rattle.std.specs.List.{starts_with}
use Rattle.std.proofs.lemmas.Bool.{cases_Bool, eq-eqb, eqb-true, false≢true, false_from_ne_true, ltb-false, ltb-true}
use Rattle.std.proofs.lemmas.List.{append-nil, length-append, length-drop, length-take, take-append-drop}
use Rattle.spec_tokens.proofs.Cutting.{IsCut, IsItemFront, chosen, is_ok_piece, item_cut, number_front, two_front}
use Rattle.spec_tokens.proofs.Cuts.{lexemes_from-none, lexemes_from-wrong}
use Rattle.spec_tokens.proofs.Faults.{spelling_fits}
use Rattle.spec_tokens.proofs.Sound.{answer_behind, no_list, piece_cut}
use Rattle.spec_tokens.proofs.Texts.{text_end-item}
use Rattle.spec_tokens.specs.Byte.{is_blank, is_digit, is_in_line, is_line_end, is_quote, is_source, is_start}
use Rattle.spec_tokens.specs.Faults.{AreBefore, HasFault, IsLineOver, IsLiteral, IsNoItem, IsOpenBody, IsSpelling, LacksPiece, begins_piece}
use Rattle.spec_tokens.specs.Faults as why
use Rattle.spec_tokens.specs.Gap.{block_comment, comment_end, comment_kind, line_comment, line_end_len}
use Rattle.spec_tokens.specs.Laws.{Element, spelled}
use Rattle.spec_tokens.specs.Mark.{is_mark, mark, mark_len}
use Rattle.spec_tokens.specs.Number.{is_number_tail, largest, number, number_len, number_value}
use Rattle.spec_tokens.specs.Piece.{piece, plain_piece, text, word}
use Rattle.spec_tokens.specs.Shape.{AreItems, IsItem, Stands, is_tail, joined}
use Rattle.spec_tokens.specs.Text.{◌>>=◌, escape, escape_len, item_len, text_end}
use Rattle.spec_tokens.specs.Tokens.{Lexeme, lexemes, lexemes_from, lexemes_of, newline_behind, prepend}
use Rattle.spec_tokens.specs.declared.fault.LexFault.{LexFault}
use Rattle.spec_tokens.specs.declared.fault.LexFault.TheVariants.{BadByte, BigLiteral, Unclosed}
use Rattle.spec_tokens.specs.declared.piece.Escape.{Escape}
use Rattle.spec_tokens.specs.declared.piece.Piece.{Piece}
use Rattle.spec_tokens.specs.declared.piece.PieceKind.TheVariants.{LineEnd, Blank, Token}
use Rattle.spec_tokens.specs.declared.piece.TokenKind.TheVariants.{Mark, Number, Text}

-- what a refusal holds
abbrev is_err_nat : LexFault → Result ℕ LexFault
is_err_nat x = Err x

abbrev is_err_piece : LexFault → Result Piece LexFault
is_err_piece x = Err x

abbrev is_err_list : LexFault → Result (List Lexeme) LexFault
is_err_list x = Err x

nat_fault : (x y : LexFault) → is_err_nat x ≡ Err y → y ≡ x
nat_fault x y e = cc

piece_fault : (x y : LexFault) → is_err_piece x ≡ Err y → y ≡ x
piece_fault x y e = cc

list_fault : (x y : LexFault) → is_err_list x ≡ Err y → y ≡ x
list_fault x y e = cc

-- of two steps the first or the second failed
stopped : {A B : Type 0} (r : Result A LexFault) (f : A → Result B LexFault) (fault : LexFault) → (r >>= f) ≡ Err fault → (r ≡ Err fault) ⊎ ((x : A) × (r ≡ Ok x) × (f x ≡ Err fault))
stopped (Ok x) f fault e = inr (x, refl, e)
stopped {A} {B} (Err other) f fault e =
    let same : other ≡ fault = cc in inl (ap Err same)

-- comments
record IsOpenFront (start at : ℕ) (bytes : List ℕ) (fault : LexFault) : Type 0 where
  body : List ℕ
  left : List ℕ
  whole : bytes ≡ body ++ left
  open_body : IsOpenBody body left
  ends : ((left ≡ []) × (fault ≡ Unclosed start)) ⊎ ((b : ℕ) × (rest : List ℕ) × (left ≡ b ∷ rest) × (is_source b ≡ false) × (fault ≡ BadByte (at + length body)))

-- one byte more of the body
open_front_more : (start at b : ℕ) (bytes : List ℕ) (fault : LexFault) → starts_with nat_eq (b ∷ bytes) (42 ∷ 47 ∷ []) ≡ false → is_source b ≡ true → IsOpenFront start (at + 1) bytes fault → IsOpenFront start at (b ∷ bytes) fault
open_front_more start at b bytes fault apart source behind =
    let body = b ∷ behind.body in
    let apart_whole = subst (λ (t : List ℕ). starts_with nat_eq (b ∷ t) (42 ∷ 47 ∷ []) ≡ false) behind.whole apart in
    let place : at + 1 + length behind.body ≡ at + length body = omega arith in
    record {
      body = body;
      left = behind.left;
      whole = ap (λ t. b ∷ t) behind.whole;
      open_body = (apart_whole, source, behind.open_body);
      ends =
          ⊎_elim
          (λ (over : (behind.left ≡ []) × (fault ≡ Unclosed start)). inl over)
          (λ (bad : (c : ℕ) × (rest : List ℕ) × (behind.left ≡ c ∷ rest) × (is_source c ≡ false) × (fault ≡ BadByte (at + 1 + length behind.body))).
          inr (bad.0, bad.1, bad.2, bad.3, bad.4 ∙ ap BadByte place))
          behind.ends;
    }

comment_wrong : (start at : ℕ) (bytes : List ℕ) (fault : LexFault) → comment_end start at bytes ≡ Err fault → IsOpenFront start at bytes fault
unfolding comment_end
comment_wrong start at [] fault e = record { body = []; left = []; whole = refl; open_body = tt; ends = inl (refl, nat_fault (Unclosed start) fault e) }
comment_wrong start at (b ∷ bytes) fault e =
    ⊎_elim
    (λ (closed : (starts_with nat_eq (b ∷ bytes) (42 ∷ 47 ∷ []) ≡ true) × (Ok (at + 2) ≡ Err fault)). cc)
    (λ (more : (starts_with nat_eq (b ∷ bytes) (42 ∷ 47 ∷ []) ≡ false) × (cond (is_source b) (comment_end start (at + 1) bytes) (Err (BadByte at)) ≡ Err fault)).
    ⊎_elim
    (λ (source : (is_source b ≡ true) × (comment_end start (at + 1) bytes ≡ Err fault)).
    open_front_more start at b bytes fault more.0 source.0 (comment_wrong start (at + 1) bytes fault source.1))
    (λ (bad : (is_source b ≡ false) × (Err (BadByte at) ≡ Err fault)).
    let place : at ≡ at + 0 = omega arith in
    record { body = []; left = b ∷ bytes; whole = refl; open_body = tt; ends = inr (b, bytes, refl, bad.0, nat_fault (BadByte at) fault bad.1 ∙ ap BadByte place) })
    (chosen (is_source b) (comment_end start (at + 1) bytes) (Err (BadByte at)) (Err fault) more.1))
    (chosen (starts_with nat_eq (b ∷ bytes) (42 ∷ 47 ∷ [])) (Ok (at + 2)) (cond (is_source b) (comment_end start (at + 1) bytes) (Err (BadByte at))) (Err fault) e)

open_comment : (at : ℕ) (bytes rest : List ℕ) (fault : LexFault) → bytes ≡ 47 ∷ 42 ∷ rest → IsOpenFront at (at + 2) rest fault → LacksPiece at bytes fault
open_comment at bytes rest fault bytes_is front =
    ⊎_elim
    (λ (over : (front.left ≡ []) × (fault ≡ Unclosed at)).
    why.OpenComment front.body
    (bytes_is ∙ ap (λ t. 47 ∷ 42 ∷ t) (front.whole ∙ ap (λ t. front.body ++ t) over.0 ∙ append-nil front.body))
    (subst (λ (t : List ℕ). IsOpenBody front.body t) over.0 front.open_body) over.1)
    (λ (bad : (b : ℕ) × (behind : List ℕ) × (front.left ≡ b ∷ behind) × (is_source b ≡ false) × (fault ≡ BadByte (at + 2 + length front.body))).
    why.NoSource front.body bad.0 bad.1
    (bytes_is ∙ ap (λ t. 47 ∷ 42 ∷ t) (front.whole ∙ ap (λ t. front.body ++ t) bad.2))
    (subst (λ (t : List ℕ). IsOpenBody front.body t) bad.2 front.open_body) bad.3 bad.4)
    front.ends

block_comment_wrong : (at : ℕ) (bytes : List ℕ) (fault : LexFault) → starts_with nat_eq bytes (47 ∷ 42 ∷ []) ≡ true → block_comment at bytes ≡ Err fault → LacksPiece at bytes fault
unfolding block_comment
block_comment_wrong at bytes fault opens e =
    let front = two_front 47 42 bytes opens in
    let rest = front.0 in
    let Q : List ℕ → Type 0 = λ t. (comment_end at (at + 2) (drop 2 t) >>= λ end. is_ok_piece (record { kind = comment_kind (take (end - at) t); end = end })) ≡ Err fault in
    ⊎_elim
    (λ (wrong : comment_end at (at + 2) rest ≡ Err fault). open_comment at bytes rest fault front.1 (comment_wrong at (at + 2) rest fault wrong))
    (λ (other : (end : ℕ) × (comment_end at (at + 2) rest ≡ Ok end) × (is_ok_piece (record { kind = comment_kind (take (end - at) (47 ∷ 42 ∷ rest)); end = end }) ≡ Err fault)). cc)
    (stopped (comment_end at (at + 2) rest) (λ end. is_ok_piece (record { kind = comment_kind (take (end - at) (47 ∷ 42 ∷ rest)); end = end })) fault (subst Q front.1 e))

-- texts
no_source_is : (b : ℕ) → is_in_line b ≡ false → is_line_end b ≡ false → is_source b ≡ false
unfolding is_source
no_source_is b in_line line_end = rw (in_line, line_end) refl

no_escape : (at : ℕ) (o : Option Escape) (fault : LexFault) → escape_len at o ≡ Err fault → (o ≡ None) × (fault ≡ BadByte at)
no_escape at None fault e = (refl, nat_fault (BadByte at) fault e)
no_escape at (Some found) fault e = cc

item_wrong : (start at b : ℕ) (bytes : List ℕ) (fault : LexFault) → item_len start at (b ∷ bytes) ≡ Err fault → ((is_line_end b ≡ true) × (fault ≡ Unclosed start)) ⊎ (IsNoItem b bytes × (fault ≡ BadByte at))
unfolding item_len
item_wrong start at b bytes fault e =
    ⊎_elim
    (λ (escaped : (b == 92 ≡ true) × (escape_len at (escape bytes) ≡ Err fault)).
    let none = no_escape at (escape bytes) fault escaped.1 in
    inr (inr (eqb-true b 92 escaped.0, none.0), none.1))
    (λ (plain : (b == 92 ≡ false) × (cond (is_line_end b) (Err (Unclosed start)) (cond (is_in_line b) (Ok 1) (Err (BadByte at))) ≡ Err fault)).
    ⊎_elim
    (λ (ended : (is_line_end b ≡ true) × (Err (Unclosed start) ≡ Err fault)). inl (ended.0, nat_fault (Unclosed start) fault ended.1))
    (λ (inside : (is_line_end b ≡ false) × (cond (is_in_line b) (Ok 1) (Err (BadByte at)) ≡ Err fault)).
    ⊎_elim
    (λ (one : (is_in_line b ≡ true) × (Ok 1 ≡ Err fault)). cc)
    (λ (bad : (is_in_line b ≡ false) × (Err (BadByte at) ≡ Err fault)). inr (inl (no_source_is b bad.0 inside.0), nat_fault (BadByte at) fault bad.1))
    (chosen (is_in_line b) (Ok 1) (Err (BadByte at)) (Err fault) inside.1))
    (chosen (is_line_end b) (Err (Unclosed start)) (cond (is_in_line b) (Ok 1) (Err (BadByte at))) (Err fault) plain.1))
    (chosen (b == 92) (escape_len at (escape bytes)) (cond (is_line_end b) (Err (Unclosed start)) (cond (is_in_line b) (Ok 1) (Err (BadByte at)))) (Err fault) e)

-- the items of a text up to where none stands
record IsOpenItems (quote start at : ℕ) (bytes : List ℕ) (fault : LexFault) : Type 0 where
  items : List (List ℕ)
  left : List ℕ
  whole : bytes ≡ joined items ++ left
  are : AreItems quote items left
  ends : (IsLineOver left × (fault ≡ Unclosed start)) ⊎ ((b : ℕ) × (rest : List ℕ) × (left ≡ b ∷ rest) × IsNoItem b rest × (fault ≡ BadByte (at + length (joined items))))

-- no item stands at the front
no_item_front : (quote start at b : ℕ) (bytes : List ℕ) (fault : LexFault) → item_len start at (b ∷ bytes) ≡ Err fault → IsOpenItems quote start at (b ∷ bytes) fault
no_item_front quote start at b bytes fault e =
    let place : at ≡ at + 0 = omega arith in
    record {
      items = [];
      left = b ∷ bytes;
      whole = refl;
      are = tt;
      ends =
          ⊎_elim
          (λ (over : (is_line_end b ≡ true) × (fault ≡ Unclosed start)). inl over)
          (λ (bad : IsNoItem b bytes × (fault ≡ BadByte at)). inr (b, bytes, refl, bad.0, bad.1 ∙ ap BadByte place))
          (item_wrong start at b bytes fault e);
    }

-- one item more
open_items_more : (quote start at len : ℕ) (bytes : List ℕ) (fault : LexFault) → IsItemFront quote bytes len → IsOpenItems quote start (at + len) (drop len bytes) fault → IsOpenItems quote start at bytes fault
open_items_more quote start at len bytes fault front later =
    let item = take len bytes in
    let item_is : IsItem quote item (joined later.items ++ later.left) = subst (λ (t : List ℕ). IsItem quote item t) later.whole front.is in
    let item_len_is : length item ≡ len = omega (arith, length-take len bytes, front.fits) in
    let place : at + len + length (joined later.items) ≡ at + length (item ++ joined later.items) = omega (arith, item_len_is, length-append item (joined later.items)) in
    record {
      items = item ∷ later.items;
      left = later.left;
      whole = sym (take-append-drop len bytes) ∙ ap (λ t. item ++ t) later.whole ∙ sym (append_assoc item (joined later.items) later.left);
      are = (item_is, later.are);
      ends =
          ⊎_elim
          (λ (over : IsLineOver later.left × (fault ≡ Unclosed start)). inl over)
          (λ (bad : (b : ℕ) × (rest : List ℕ) × (later.left ≡ b ∷ rest) × IsNoItem b rest × (fault ≡ BadByte (at + len + length (joined later.items)))).
          inr (bad.0, bad.1, bad.2, bad.3, bad.4 ∙ ap BadByte place))
          later.ends;
    }

items_wrong : (fuel quote start at : ℕ) (bytes : List ℕ) (fault : LexFault) → length bytes ≤ fuel → text_end quote start 0 at bytes ≡ Err fault → IsOpenItems quote start at bytes fault
unfolding text_end
items_wrong fuel quote start at [] fault short e = record { items = []; left = []; whole = refl; are = tt; ends = inl (tt, nat_fault (Unclosed start) fault e) }
items_wrong zero quote start at (b ∷ bytes) fault short e = absurd (omega arith)
items_wrong (suc fuel) quote start at (b ∷ bytes) fault short e =
    ⊎_elim
    (λ (closed : (b == quote ≡ true) × (Ok (at + 1) ≡ Err fault)). cc)
    (λ (more : (b == quote ≡ false) × ((item_len start at (b ∷ bytes) >>= λ len. text_end quote start (len - 1) (at + 1) bytes) ≡ Err fault)).
    ⊎_elim
    (λ (wrong : item_len start at (b ∷ bytes) ≡ Err fault). no_item_front quote start at b bytes fault wrong)
    (λ (step : (len : ℕ) × (item_len start at (b ∷ bytes) ≡ Ok len) × (text_end quote start (len - 1) (at + 1) bytes ≡ Err fault)).
    let len = step.0 in
    let front = item_cut quote start at len b bytes more.0 step.1 in
    let long : 0 < length (b ∷ bytes) = omega arith in
    let other : b ≡ quote → ⊥ = λ same. false≢true (sym more.0 ∙ eq-eqb b quote same) in
    let on = text_end-item quote start at len (b ∷ bytes) long other front.some step.1 in
    let whole_e : text_end quote start 0 at (b ∷ bytes) ≡ Err fault = e in
    let rest_short : length (drop len (b ∷ bytes)) ≤ fuel = omega (arith, length-drop len (b ∷ bytes), front.some) in
    open_items_more quote start at len (b ∷ bytes) fault front (items_wrong fuel quote start (at + len) (drop len (b ∷ bytes)) fault rest_short (sym on ∙ whole_e)))
    (stopped (item_len start at (b ∷ bytes)) (λ len. text_end quote start (len - 1) (at + 1) bytes) fault more.1))
    (chosen (b == quote) (Ok (at + 1)) (item_len start at (b ∷ bytes) >>= λ len. text_end quote start (len - 1) (at + 1) bytes) (Err fault) e)

open_text : (at quote : ℕ) (bytes : List ℕ) (fault : LexFault) → is_quote quote ≡ true → IsOpenItems quote at (at + 1) bytes fault → LacksPiece at (quote ∷ bytes) fault
open_text at quote bytes fault is front =
    ⊎_elim
    (λ (over : IsLineOver front.left × (fault ≡ Unclosed at)).
    why.OpenText quote front.items front.left (ap (λ t. quote ∷ t) front.whole) is front.are over.0 over.1)
    (λ (bad : (b : ℕ) × (rest : List ℕ) × (front.left ≡ b ∷ rest) × IsNoItem b rest × (fault ≡ BadByte (at + 1 + length (joined front.items)))).
    why.NoItem quote front.items bad.0 bad.1
    (ap (λ t. quote ∷ t) (front.whole ∙ ap (λ t. joined front.items ++ t) bad.2)) is
    (subst (λ (t : List ℕ). AreItems quote front.items t) bad.2 front.are) bad.3 bad.4)
    front.ends

text_wrong : (at quote : ℕ) (bytes : List ℕ) (fault : LexFault) → is_quote quote ≡ true → text at (quote ∷ bytes) ≡ Err fault → LacksPiece at (quote ∷ bytes) fault
unfolding text
text_wrong at quote bytes fault is e =
    ⊎_elim
    (λ (wrong : text_end quote at 0 (at + 1) bytes ≡ Err fault). open_text at quote bytes fault is (items_wrong (length bytes) quote at (at + 1) bytes fault (omega arith) wrong))
    (λ (other : (end : ℕ) × (text_end quote at 0 (at + 1) bytes ≡ Ok end) × (is_ok_piece (record { kind = Token Text; end = end }) ≡ Err fault)). cc)
    (stopped (text_end quote at 0 (at + 1) bytes) (λ end. is_ok_piece (record { kind = Token Text; end = end })) fault e)

-- numbers
tailed : (rest : List ℕ) → is_number_tail rest ≡ true → (b : ℕ) × (behind : List ℕ) × (rest ≡ b ∷ behind) × (is_tail b ≡ true)
unfolding is_number_tail
tailed [] e = absurd (false≢true e)
tailed (b ∷ behind) e = (b, behind, refl, e)

literal_front : (b : ℕ) (bytes : List ℕ) → is_digit b ≡ true → IsLiteral (take (number_len (b ∷ bytes)) (b ∷ bytes)) (drop (number_len (b ∷ bytes)) (b ∷ bytes))
literal_front b bytes digit =
    let whole = b ∷ bytes in
    let n = number_len whole in
    let text = take n whole in
    let front = number_front b bytes digit in
    let text_len : length text ≡ n = omega (arith, length-take n whole, front.1) in (
      front.0,
      (λ more behind split some longer.
          let cut : whole ≡ (text ++ more) ++ behind = sym (take-append-drop n whole) ∙ ap (λ t. text ++ t) split ∙ sym (append_assoc text more behind) in
          let fits : length (text ++ more) ≤ n = subst (λ (t : List ℕ). length (text ++ more) ≤ number_len t) (sym cut) (spelling_fits (text ++ more) behind longer) in
          omega (arith, fits, text_len, some, length-append text more)),
    )

number_wrong : (at b : ℕ) (bytes : List ℕ) (fault : LexFault) → is_digit b ≡ true → number at (b ∷ bytes) ≡ Err fault → LacksPiece at (b ∷ bytes) fault
unfolding number
number_wrong at b bytes fault digit e =
    let n = number_len (b ∷ bytes) in
    let front = take n (b ∷ bytes) in
    let behind = drop n (b ∷ bytes) in
    let literal = literal_front b bytes digit in
    let whole = sym (take-append-drop n (b ∷ bytes)) in
    let text_len : length front ≡ n = omega (arith, length-take n (b ∷ bytes), (number_front b bytes digit).1) in
    ⊎_elim
    (λ (large : (nat_lt largest (number_value front) ≡ true) × (Err (BigLiteral at) ≡ Err fault)).
    why.LargeNumber front behind whole literal (ltb-true largest (number_value front) large.0) (piece_fault (BigLiteral at) fault large.1))
    (λ (small : (nat_lt largest (number_value front) ≡ false) × (cond (is_number_tail behind) (Err (BadByte (at + n))) (is_ok_piece (record { kind = Token Number; end = at + n })) ≡ Err fault)).
    ⊎_elim
    (λ (tail : (is_number_tail behind ≡ true) × (Err (BadByte (at + n)) ≡ Err fault)).
    let last = tailed behind tail.0 in
    let place : at + n ≡ at + length front = omega (arith, text_len) in
    why.NumberTail front last.0 last.1 (whole ∙ ap (λ t. front ++ t) last.2) (subst (λ (t : List ℕ). IsLiteral front t) last.2 literal)
    (ltb-false largest (number_value front) small.0) last.3 (piece_fault (BadByte (at + n)) fault tail.1 ∙ ap BadByte place))
    (λ (other : (is_number_tail behind ≡ false) × (is_ok_piece (record { kind = Token Number; end = at + n }) ≡ Err fault)). cc)
    (chosen (is_number_tail behind) (Err (BadByte (at + n))) (is_ok_piece (record { kind = Token Number; end = at + n })) (Err fault) small.1))
    (chosen (nat_lt largest (number_value front)) (Err (BigLiteral at)) (cond (is_number_tail behind) (Err (BadByte (at + n))) (is_ok_piece (record { kind = Token Number; end = at + n }))) (Err fault) e)

-- marks
mark_len_some : (b : ℕ) (bytes : List ℕ) → is_mark (b ∷ []) ≡ true → 0 < mark_len (b ∷ bytes)
unfolding mark_len
mark_len_some b bytes one =
    ⊎_elim
    (λ (four : is_mark (take 4 (b ∷ bytes)) ≡ true). rw four (omega arith))
    (λ (no_four : is_mark (take 4 (b ∷ bytes)) ≡ false).
    ⊎_elim
    (λ (three : is_mark (take 3 (b ∷ bytes)) ≡ true). rw (no_four, three) (omega arith))
    (λ (no_three : is_mark (take 3 (b ∷ bytes)) ≡ false).
    ⊎_elim
    (λ (two : is_mark (take 2 (b ∷ bytes)) ≡ true). rw (no_four, no_three, two) (omega arith))
    (λ (no_two : is_mark (take 2 (b ∷ bytes)) ≡ false). rw (no_four, no_three, no_two, one) (omega arith))
    (cases_Bool (is_mark (take 2 (b ∷ bytes)))))
    (cases_Bool (is_mark (take 3 (b ∷ bytes)))))
    (cases_Bool (is_mark (take 4 (b ∷ bytes))))

mark_wrong : (at b : ℕ) (bytes : List ℕ) (fault : LexFault) → mark at (b ∷ bytes) ≡ Err fault → (is_mark (b ∷ []) ≡ false) × (fault ≡ BadByte at)
unfolding mark
mark_wrong at b bytes fault e =
    ⊎_elim
    (λ (none : (mark_len (b ∷ bytes) == 0 ≡ true) × (Err (BadByte at) ≡ Err fault)).
    let len = eqb-true (mark_len (b ∷ bytes)) 0 none.0 in
    (false_from_ne_true (is_mark (b ∷ [])) (λ is. omega (arith, len, mark_len_some b bytes is)), piece_fault (BadByte at) fault none.1))
    (λ (some : (mark_len (b ∷ bytes) == 0 ≡ false) × (is_ok_piece (record { kind = Token Mark; end = at + mark_len (b ∷ bytes) }) ≡ Err fault)). cc)
    (chosen (mark_len (b ∷ bytes) == 0) (Err (BadByte at)) (is_ok_piece (record { kind = Token Mark; end = at + mark_len (b ∷ bytes) })) (Err fault) e)

-- pieces
no_first : (at b : ℕ) (bytes : List ℕ) (fault : LexFault) → is_blank b ≡ false → is_line_end b ≡ false → is_start b ≡ false → is_digit b ≡ false → is_quote b ≡ false → mark at (b ∷ bytes) ≡ Err fault → LacksPiece at (b ∷ bytes) fault
no_first at b bytes fault blank line_end start digit quote e =
    let wrong = mark_wrong at b bytes fault e in
    let none : begins_piece b ≡ false = rw (blank, line_end, start, digit, quote, wrong.0) refl in
    why.NoFirst b bytes refl none wrong.1

plain_wrong : (at b : ℕ) (bytes : List ℕ) (fault : LexFault) → plain_piece at (b ∷ bytes) ≡ Err fault → LacksPiece at (b ∷ bytes) fault
unfolding plain_piece
plain_wrong at b bytes fault e =
    let last = cond (is_quote b) (text at (b ∷ bytes)) (mark at (b ∷ bytes)) in
    let others = cond (is_digit b) (number at (b ∷ bytes)) last in
    let words = cond (is_start b) (is_ok_piece (word at (b ∷ bytes))) others in
    let ends = cond (is_line_end b) (is_ok_piece (record { kind = LineEnd; end = at + line_end_len (b ∷ bytes) })) words in
    ⊎_elim
    (λ (blank : (is_blank b ≡ true) × (is_ok_piece (record { kind = Blank; end = at + 1 }) ≡ Err fault)). cc)
    (λ (no_blank : (is_blank b ≡ false) × (ends ≡ Err fault)).
    ⊎_elim
    (λ (end : (is_line_end b ≡ true) × (is_ok_piece (record { kind = LineEnd; end = at + line_end_len (b ∷ bytes) }) ≡ Err fault)). cc)
    (λ (no_end : (is_line_end b ≡ false) × (words ≡ Err fault)).
    ⊎_elim
    (λ (start : (is_start b ≡ true) × (is_ok_piece (word at (b ∷ bytes)) ≡ Err fault)). cc)
    (λ (no_start : (is_start b ≡ false) × (others ≡ Err fault)).
    ⊎_elim
    (λ (digit : (is_digit b ≡ true) × (number at (b ∷ bytes) ≡ Err fault)). number_wrong at b bytes fault digit.0 digit.1)
    (λ (no_digit : (is_digit b ≡ false) × (last ≡ Err fault)).
    ⊎_elim
    (λ (quote : (is_quote b ≡ true) × (text at (b ∷ bytes) ≡ Err fault)). text_wrong at b bytes fault quote.0 quote.1)
    (λ (no_quote : (is_quote b ≡ false) × (mark at (b ∷ bytes) ≡ Err fault)). no_first at b bytes fault no_blank.0 no_end.0 no_start.0 no_digit.0 no_quote.0 no_quote.1)
    (chosen (is_quote b) (text at (b ∷ bytes)) (mark at (b ∷ bytes)) (Err fault) no_digit.1))
    (chosen (is_digit b) (number at (b ∷ bytes)) last (Err fault) no_start.1))
    (chosen (is_start b) (is_ok_piece (word at (b ∷ bytes))) others (Err fault) no_end.1))
    (chosen (is_line_end b) (is_ok_piece (record { kind = LineEnd; end = at + line_end_len (b ∷ bytes) })) words (Err fault) no_blank.1))
    (chosen (is_blank b) (is_ok_piece (record { kind = Blank; end = at + 1 })) ends (Err fault) e)

piece_wrong : (at b : ℕ) (bytes : List ℕ) (fault : LexFault) → piece at (b ∷ bytes) ≡ Err fault → LacksPiece at (b ∷ bytes) fault
unfolding piece
piece_wrong at b bytes fault e =
    let blocks = cond (starts_with nat_eq (b ∷ bytes) (47 ∷ 42 ∷ [])) (block_comment at (b ∷ bytes)) (plain_piece at (b ∷ bytes)) in
    ⊎_elim
    (λ (line : (starts_with nat_eq (b ∷ bytes) (47 ∷ 47 ∷ []) ≡ true) × (is_ok_piece (line_comment at (b ∷ bytes)) ≡ Err fault)). cc)
    (λ (no_line : (starts_with nat_eq (b ∷ bytes) (47 ∷ 47 ∷ []) ≡ false) × (blocks ≡ Err fault)).
    ⊎_elim
    (λ (block : (starts_with nat_eq (b ∷ bytes) (47 ∷ 42 ∷ []) ≡ true) × (block_comment at (b ∷ bytes) ≡ Err fault)). block_comment_wrong at (b ∷ bytes) fault block.0 block.1)
    (λ (no_block : (starts_with nat_eq (b ∷ bytes) (47 ∷ 42 ∷ []) ≡ false) × (plain_piece at (b ∷ bytes) ≡ Err fault)). plain_wrong at b bytes fault no_block.1)
    (chosen (starts_with nat_eq (b ∷ bytes) (47 ∷ 42 ∷ [])) (block_comment at (b ∷ bytes)) (plain_piece at (b ∷ bytes)) (Err fault) no_line.1))
    (chosen (starts_with nat_eq (b ∷ bytes) (47 ∷ 47 ∷ [])) (is_ok_piece (line_comment at (b ∷ bytes))) blocks (Err fault) e)

-- pieces that stand, up to where one is lacking
record IsFaulty (bytes : List ℕ) (at : ℕ) (fault : LexFault) : Type 0 where
  elements : List Element
  left : List ℕ
  pieces : AreBefore elements left
  whole : bytes ≡ spelled elements ++ left
  lacks : LacksPiece (at + length (spelled elements)) left fault

-- a piece that stands, and the fault behind it
front_and_fault : (at : ℕ) (bytes : List ℕ) (fault : LexFault) (found : Piece) (cut : IsCut bytes at found) → IsFaulty cut.rest (at + length cut.text) fault → IsFaulty bytes at fault
front_and_fault at bytes fault found cut behind =
    let stands = subst (λ (t : List ℕ). Stands found.kind cut.text t) behind.whole cut.stands in
    let place : at + length cut.text + length (spelled behind.elements) ≡ at + length (cut.text ++ spelled behind.elements) = omega (arith, length-append cut.text (spelled behind.elements)) in
    record {
      elements = record { kind = found.kind; text = cut.text } ∷ behind.elements;
      left = behind.left;
      pieces = (stands, behind.pieces);
      whole = cut.whole ∙ ap (λ t. cut.text ++ t) behind.whole ∙ sym (append_assoc cut.text (spelled behind.elements) behind.left);
      lacks = subst (λ (n : ℕ). LacksPiece n behind.left fault) place behind.lacks;
    }

-- a fault behind a front
fault_of_rest : (front : List Lexeme) (rest : Result (List Lexeme) LexFault) (fault : LexFault) → prepend front rest ≡ Err fault → rest ≡ Err fault
fault_of_rest front (Ok more) fault e = cc
fault_of_rest front (Err other) fault e = e

piece_faulty : (at : ℕ) (newline : Bool) (b : ℕ) (bytes : List ℕ) (fault : LexFault) (read : Result Piece LexFault) → ((at : ℕ) (newline : Bool) (rest : List ℕ) → length rest < length (b ∷ bytes) → lexemes_from 0 at newline rest ≡ Err fault → IsFaulty rest at fault) → piece at (b ∷ bytes) ≡ read → lexemes_from 0 at newline (b ∷ bytes) ≡ Err fault → IsFaulty (b ∷ bytes) at fault
piece_faulty at newline b bytes fault (Err other) smaller read e =
    let same = list_fault other fault (sym (lexemes_from-wrong at newline (b ∷ bytes) other (omega arith) read) ∙ e) in
    let place : at ≡ at + 0 = omega arith in
    let lacks = piece_wrong at b bytes fault (read ∙ ap Err (sym same)) in
    record { elements = []; left = b ∷ bytes; pieces = tt; whole = refl; lacks = subst (λ (n : ℕ). LacksPiece n (b ∷ bytes) fault) place lacks }
piece_faulty at newline b bytes fault (Ok found) smaller read e =
    let cut = piece_cut at b bytes found read in
    let whole_len : length (b ∷ bytes) ≡ length cut.text + length cut.rest = ap length cut.whole ∙ length-append cut.text cut.rest in
    let text_some = cut.some in
    let short : length cut.rest < length (b ∷ bytes) = omega arith in
    let behind = fault_of_rest (lexemes_of found.kind cut.text at newline) (lexemes_from 0 (at + length cut.text) (newline_behind found.kind newline) cut.rest) fault (answer_behind at newline (b ∷ bytes) (Err fault) found cut read e) in
    front_and_fault at (b ∷ bytes) fault found cut (smaller (at + length cut.text) (newline_behind found.kind newline) cut.rest short behind)

fault_cut : (fuel at : ℕ) (newline : Bool) (bytes : List ℕ) (fault : LexFault) → length bytes ≤ fuel → lexemes_from 0 at newline bytes ≡ Err fault → IsFaulty bytes at fault
fault_cut fuel at newline [] fault short e = absurd (no_list (lexemes_from 0 at newline []) [] fault (lexemes_from-none at newline [] refl) e)
fault_cut zero at newline (b ∷ bytes) fault short e = absurd (omega arith)
fault_cut (suc fuel) at newline (b ∷ bytes) fault short e =
    piece_faulty at newline b bytes fault (piece at (b ∷ bytes)) (λ at newline rest smaller. fault_cut fuel at newline rest fault (omega arith)) refl e

pub fault_is_cut : (source : List ℕ) (fault : LexFault) → lexemes source ≡ Err fault → HasFault source fault
unfolding lexemes
fault_is_cut source fault e =
    let cut = fault_cut (length source) 0 false source fault (omega arith) e in
    let place : 0 + length (spelled cut.elements) ≡ length (spelled cut.elements) = omega arith in
    record { elements = cut.elements; left = cut.left; pieces = cut.pieces; whole = cut.whole; lacks = subst (λ (n : ℕ). LacksPiece n cut.left fault) place cut.lacks }
