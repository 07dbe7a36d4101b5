-- The units of a text are what its items stand for.
use Rattle.std.proofs.Common.{◌≡◌, ℕ, suc, ◌+◌, ◌-◌, ◌<◌, Bool, true, false, cond, ◌==◌, nat_le, nat_lt, ◌||◌, ◌&&◌, not, List, [], ◌∷◌, ◌++◌, length, take, Option, Some, None, refl, sym, ap, ◌∙◌, ⊎_elim, inl, inr, arith}
use Rattle.std.specs.List.{list_all}
use Rattle.std.proofs.lemmas.Bool.{le-leb}
use Rattle.std.proofs.lemmas.List.{append-nil, drop_at, length-append, take_at}
use Rattle.spec_tokens.proofs.Classes.{quote_excludes}
use Rattle.spec_tokens.proofs.Cutting.{chosen, some_is}
use Rattle.spec_tokens.proofs.Texts.{units_from-unit, units_from-none}
use Rattle.spec_tokens.specs.Byte.{is_digit, is_hex, is_in_line, is_line_end, is_printable, is_quote}
use Rattle.spec_tokens.specs.Number.{value_from}
use Rattle.spec_tokens.specs.Shape.{AreItems, IsItem, joined}
use Rattle.spec_tokens.specs.Text.{escape, hex_escape, is_digit_first, single_escape, text_units, unit_at, units_from}
use Rattle.spec_tokens.specs.Units.{AreUnits, IsUnit}
use Rattle.spec_tokens.specs.declared.piece.Escape.{Escape}

-- the parts of an escape
abbrev single : ℕ → ℕ → Escape
single unit len = record { unit = unit; len = len }

same_len : (unit len other_unit other_len : ℕ) → Some (single unit len) ≡ Some (single other_unit other_len) → len ≡ other_len
same_len unit len other_unit other_len e = ap (λ (escape : Escape). escape.len) (some_is (single unit len) (single other_unit other_len) e)

-- a digit stands at the front of neither, or what stands there is the same
abbrev AreAlike : List ℕ → List ℕ → Type 0
AreAlike behind other = is_digit_first behind ≡ is_digit_first other

-- an escape of digits, before other bytes
hex_same : (count : ℕ) (digits behind other : List ℕ) → length digits ≡ count → hex_escape count (digits ++ behind) ≡ hex_escape count (digits ++ other)
unfolding hex_escape
hex_same count digits behind other len =
    let one = take_at digits behind count len in
    let two = take_at digits other count len in
    let fits : nat_le count (length (digits ++ behind)) ≡ true = le-leb count (length (digits ++ behind)) (omega (arith, len, length-append digits behind)) in
    let fits_other : nat_le count (length (digits ++ other)) ≡ true = le-leb count (length (digits ++ other)) (omega (arith, len, length-append digits other)) in
    rw (one, two, fits, fits_other) refl

hex_len : (count : ℕ) (bytes : List ℕ) (unit len : ℕ) → hex_escape count bytes ≡ Some (single unit len) → len ≡ suc count
unfolding hex_escape
hex_len count bytes unit len e =
    ⊎_elim
    (λ (yes : ((nat_le count (length bytes) && list_all is_hex (take count bytes) && nat_lt (value_from 16 0 (take count bytes)) 256) ≡ true) × (Some (single (value_from 16 0 (take count bytes)) (suc count)) ≡ Some (single unit len))).
    sym (same_len (value_from 16 0 (take count bytes)) (suc count) unit len yes.1))
    (λ (other : ((nat_le count (length bytes) && list_all is_hex (take count bytes) && nat_lt (value_from 16 0 (take count bytes)) 256) ≡ false) × (None ≡ Some (single unit len))). cc)
    (chosen (nat_le count (length bytes) && list_all is_hex (take count bytes) && nat_lt (value_from 16 0 (take count bytes)) 256) (Some (single (value_from 16 0 (take count bytes)) (suc count))) None (Some (single unit len)) e)

-- what an escape gives that begins neither with x nor with u
abbrev other_escape : ℕ → Bool → Option Escape
other_escape b nul = cond nul (Some (single 0 1)) (cond (is_digit b || not (is_printable b)) None (Some (single (single_escape b) 1)))

other_len : (b : ℕ) (nul : Bool) (unit len : ℕ) → other_escape b nul ≡ Some (single unit len) → len ≡ 1
other_len b true unit len e = sym (same_len 0 1 unit len e)
other_len b false unit len e =
    ⊎_elim
    (λ (wrong : ((is_digit b || not (is_printable b)) ≡ true) × (None ≡ Some (single unit len))). cc)
    (λ (right : ((is_digit b || not (is_printable b)) ≡ false) × (Some (single (single_escape b) 1) ≡ Some (single unit len))). sym (same_len (single_escape b) 1 unit len right.1))
    (chosen (is_digit b || not (is_printable b)) None (Some (single (single_escape b) 1)) (Some (single unit len)) e)

-- an escape takes a byte at least
escape_some : (bytes : List ℕ) (unit len : ℕ) → escape bytes ≡ Some (single unit len) → 0 < len
unfolding escape
escape_some [] unit len e = cc
escape_some (b ∷ bytes) unit len e =
    let nul = b == 48 && not (is_digit_first bytes) in
    ⊎_elim
    (λ (x : (b == 120 ≡ true) × (hex_escape 2 bytes ≡ Some (single unit len))). omega (arith, hex_len 2 bytes unit len x.1))
    (λ (no_x : (b == 120 ≡ false) × (cond (b == 117) (hex_escape 4 bytes) (other_escape b nul) ≡ Some (single unit len))).
    ⊎_elim
    (λ (u : (b == 117 ≡ true) × (hex_escape 4 bytes ≡ Some (single unit len))). omega (arith, hex_len 4 bytes unit len u.1))
    (λ (no_u : (b == 117 ≡ false) × (other_escape b nul ≡ Some (single unit len))). omega (arith, other_len b nul unit len no_u.1))
    (chosen (b == 117) (hex_escape 4 bytes) (other_escape b nul) (Some (single unit len)) no_x.1))
    (chosen (b == 120) (hex_escape 2 bytes) (cond (b == 117) (hex_escape 4 bytes) (other_escape b nul)) (Some (single unit len)) e)

no_bytes : (tail : List ℕ) → length tail ≡ 0 → tail ≡ []
no_bytes [] e = refl
no_bytes (b ∷ tail) e = absurd (omega (arith, e))

other_same : (b : ℕ) (tail behind other : List ℕ) (unit : ℕ) → AreAlike behind other → other_escape b (b == 48 && not (is_digit_first (tail ++ behind))) ≡ Some (single unit (suc (length tail))) → other_escape b (b == 48 && not (is_digit_first (tail ++ other))) ≡ Some (single unit (suc (length tail)))
other_same b tail behind other unit alike e =
    let len = other_len b (b == 48 && not (is_digit_first (tail ++ behind))) unit (suc (length tail)) e in
    let none : tail ≡ [] = no_bytes tail (omega (arith, len)) in
    let alike_whole : is_digit_first (tail ++ behind) ≡ is_digit_first (tail ++ other) = rw none alike in
    ap (λ first. other_escape b (b == 48 && not first)) (sym alike_whole) ∙ e

-- an escape is the same before other bytes, where these begin alike
escape_same : (bytes behind other : List ℕ) (unit : ℕ) → AreAlike behind other → escape (bytes ++ behind) ≡ Some (single unit (length bytes)) → escape (bytes ++ other) ≡ Some (single unit (length bytes))
unfolding escape
escape_same [] behind other unit alike e = absurd (omega (arith, escape_some behind unit 0 e))
escape_same (b ∷ tail) behind other unit alike e =
    let found = Some (single unit (suc (length tail))) in
    let nul = b == 48 && not (is_digit_first (tail ++ behind)) in
    ⊎_elim
    (λ (x : (b == 120 ≡ true) × (hex_escape 2 (tail ++ behind) ≡ found)).
    let len = hex_len 2 (tail ++ behind) unit (suc (length tail)) x.1 in
    rw x.0 (hex_same 2 tail other behind (omega (arith, len)) ∙ x.1))
    (λ (no_x : (b == 120 ≡ false) × (cond (b == 117) (hex_escape 4 (tail ++ behind)) (other_escape b nul) ≡ found)).
    ⊎_elim
    (λ (u : (b == 117 ≡ true) × (hex_escape 4 (tail ++ behind) ≡ found)).
    let len = hex_len 4 (tail ++ behind) unit (suc (length tail)) u.1 in
    rw (no_x.0, u.0) (hex_same 4 tail other behind (omega (arith, len)) ∙ u.1))
    (λ (no_u : (b == 117 ≡ false) × (other_escape b nul ≡ found)).
    rw (no_x.0, no_u.0) (other_same b tail behind other unit alike no_u.1))
    (chosen (b == 117) (hex_escape 4 (tail ++ behind)) (other_escape b nul) found no_x.1))
    (chosen (b == 120) (hex_escape 2 (tail ++ behind)) (cond (b == 117) (hex_escape 4 (tail ++ behind)) (other_escape b nul)) found e)

-- what is read of an item
record IsRead (item behind other : List ℕ) : Type 0 where
  unit : ℕ
  is : IsUnit item behind unit
  some : 0 < length item
  read : unit_at (item ++ other) ≡ Some (single unit (length item))

item_read : (quote : ℕ) (item behind other : List ℕ) → AreAlike behind other → IsItem quote item behind → IsRead item behind other
unfolding unit_at
item_read quote [] behind other alike is = absurd is
item_read quote (b ∷ bytes) behind other alike is =
    ⊎_elim
    (λ (plain : (b == 92 ≡ false) × (is_line_end b ≡ false) × (is_in_line b ≡ true) × (bytes ≡ [])).
    record { unit = b; is = inl (plain.0, refl); some = omega arith; read = rw (plain.0, plain.3) refl })
    (λ (escaped : (b ≡ 92) × (unit : ℕ) × (escape (bytes ++ behind) ≡ Some (single unit (length bytes)))).
    let read = escape_same bytes behind other escaped.1 alike escaped.2 in
    let len : length bytes + 1 ≡ suc (length bytes) = omega arith in
    record { unit = escaped.1; is = inr (escaped.0, escaped.2); some = omega arith; read = rw (escaped.0, read, len) refl })
    is.1

-- bytes begin alike behind the same bytes
alike_behind : (front behind other : List ℕ) → AreAlike behind other → AreAlike (front ++ behind) (front ++ other)
unfolding is_digit_first
alike_behind [] behind other alike = alike
alike_behind (b ∷ front) behind other alike = refl

items_read : (quote : ℕ) (items : List (List ℕ)) (behind : List ℕ) → AreAlike behind [] → AreItems quote items behind → AreUnits items behind (units_from 0 (joined items))
items_read quote [] behind alike are = rw (units_from-none [] refl) tt
items_read quote (item ∷ items) behind alike are =
    let rest = joined items in
    let alike_rest : AreAlike (rest ++ behind) rest = alike_behind rest behind [] alike ∙ ap is_digit_first (append-nil rest) in
    let read = item_read quote item (rest ++ behind) rest alike_rest are.0 in
    let item_some = read.some in
    let whole_len = length-append item rest in
    let long : 0 < length (item ++ rest) = omega (arith, item_some, whole_len) in
    let cut = units_from-unit (item ++ rest) (single read.unit (length item)) long item_some read.read in
    let behind_item = drop_at item rest (length item) refl in
    rw (cut, behind_item) (read.is, items_read quote items behind alike are.1)

quote_alike : (quote : ℕ) (rest : List ℕ) → is_quote quote ≡ true → AreAlike (quote ∷ rest) []
unfolding is_digit_first
quote_alike quote rest is = (quote_excludes quote is).digit

pub text_read : (quote : ℕ) (items : List (List ℕ)) (rest : List ℕ) → is_quote quote ≡ true → AreItems quote items (quote ∷ rest) → AreUnits items (quote ∷ rest) (text_units (quote ∷ (joined items ++ quote ∷ [])))
unfolding text_units
text_read quote items rest is are =
    let len : length (quote ∷ (joined items ++ quote ∷ [])) - 2 ≡ length (joined items) = omega (arith, length-append (joined items) (quote ∷ [])) in
    let front = take_at (joined items) (quote ∷ []) (length (joined items)) refl in
    rw (len, front) (items_read quote items (quote ∷ rest) (quote_alike quote rest is) are)
