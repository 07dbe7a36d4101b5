-- Texts: ECMA-262, String Literals.
use Rattle.std.specs.Prelude.{ℕ, zero, suc, ◌+◌, ◌-◌, Bool, false, ◌==◌, ◌&&◌, ◌||◌, not, nat_le, nat_lt, List, [], ◌∷◌, take, drop, length, slice_index, Option, Some, None, option_map, if◌then◌else◌, Result, Ok, Err}
use Rattle.std.specs.List.{list_all}
use Rattle.spec_tokens.specs.Byte.{is_digit, is_hex, is_printable, is_in_line, is_line_end}
use Rattle.spec_tokens.specs.Number.{value_from}
use Rattle.spec_tokens.specs.declared.fault.LexFault.{LexFault}
use Rattle.spec_tokens.specs.declared.fault.LexFault.TheVariants.{BadByte, Unclosed}
use Rattle.spec_tokens.specs.declared.piece.Escape.{Escape}

-- an escape of some hexadecimal digits, of which the bytes are those behind the x or u
unfoldable pub hex_escape : ℕ → List ℕ → Option Escape
hex_escape count bytes =
    let digits = take count bytes in
    if nat_le count (length bytes) && list_all is_hex digits && nat_lt (value_from 16 0 digits) 256
    then Some (record { unit = value_from 16 0 digits; len = suc count })
    else None

-- a digit stands at the front
unfoldable pub is_digit_first : List ℕ → Bool
is_digit_first [] = false
is_digit_first (b ∷ bytes) = is_digit b

-- what a byte behind a backslash stands for: b, t, n, v, f and r for a control, others for themselves
unfoldable pub single_escape : ℕ → ℕ
single_escape b =
    if b == 98 then 8 else (if b == 116 then 9 else (if b == 110 then 10 else
    (if b == 118 then 11 else (if b == 102 then 12 else (if b == 114 then 13 else b)))))

-- the escape that stands behind a backslash
unfoldable pub escape : List ℕ → Option Escape
escape [] = None
escape (b ∷ bytes) =
    if b == 120 then hex_escape 2 bytes
    else (if b == 117 then hex_escape 4 bytes
    else (if b == 48 && not (is_digit_first bytes) then Some (record { unit = 0; len = 1 })
    else (if is_digit b || not (is_printable b) then None
    else Some (record { unit = single_escape b; len = 1 }))))

-- how many bytes an escape takes, with its backslash that stands at a place
abbrev pub escape_len : ℕ → Option Escape → Result ℕ LexFault
escape_len at None = Err (BadByte at)
escape_len at (Some escape) = Ok (1 + escape.len)

-- how many bytes the item at the front has, which stands at a place, in a text that starts at a place
unfoldable pub item_len : ℕ → ℕ → List ℕ → Result ℕ LexFault
item_len start at bytes =
    let first = slice_index bytes 0 in
    if first == 92 then escape_len at (escape (drop 1 bytes))
    else (if is_line_end first then Err (Unclosed start)
    else (if is_in_line first then Ok 1 else Err (BadByte at)))

-- one step and then another
infixl 10 ◌>>=◌
abbrev pub ◌>>=◌ : {A B : Type 0} → Result A LexFault → (A → Result B LexFault) → Result B LexFault
(Ok x) >>= f = f x
(Err e) >>= f = Err e

-- the end of a text that starts at a place, whose next bytes stand at a place, the first few of which are passed
unfoldable pub text_end : ℕ → ℕ → ℕ → ℕ → List ℕ → Result ℕ LexFault
text_end quote start passed at [] = Err (Unclosed start)
text_end quote start (suc passed) at (b ∷ bytes) = text_end quote start passed (at + 1) bytes
text_end quote start zero at (b ∷ bytes) =
    if b == quote then Ok (at + 1)
    else (item_len start at (b ∷ bytes) >>= λ len. text_end quote start (len - 1) (at + 1) bytes)

-- the unit at the front of the items of a text, and how many bytes it takes
unfoldable pub unit_at : List ℕ → Option Escape
unit_at bytes =
    let first = slice_index bytes 0 in
    if first == 92 then option_map (λ (found : Escape). record { unit = found.unit; len = found.len + 1 }) (escape (drop 1 bytes))
    else Some (record { unit = first; len = 1 })

-- the units that the items of a text stand for, the first few bytes of which are passed
unfoldable pub units_from : ℕ → List ℕ → List ℕ
units_from passed [] = []
units_from (suc passed) (b ∷ bytes) = units_from passed bytes
units_from zero (b ∷ bytes) = elim (unit_at (b ∷ bytes)) [ None ↦ [] | Some found ↦ found.unit ∷ units_from (found.len - 1) bytes ]

-- the units that a text stands for
unfoldable pub text_units : List ℕ → List ℕ
text_units text = units_from 0 (take (length text - 2) (drop 1 text))
