-- Numbers: ECMA-262, Numeric Literals.
use Rattle.std.specs.Prelude.{ℕ, ◌+◌, ◌-◌, ◌*◌, Bool, false, ◌==◌, ◌&&◌, ◌||◌, nat_le, nat_lt, List, [], ◌∷◌, take, drop, if◌then◌else◌, Result, Ok, Err}
use Rattle.std.specs.List.{prefix_len}
use Rattle.spec_tokens.specs.Byte.{is_digit, is_hex, is_part}
use Rattle.spec_tokens.specs.declared.fault.LexFault.{LexFault}
use Rattle.spec_tokens.specs.declared.fault.LexFault.TheVariants.{BadByte, BigLiteral}
use Rattle.spec_tokens.specs.declared.piece.Piece.{Piece}
use Rattle.spec_tokens.specs.declared.piece.PieceKind.TheVariants.{Token}
use Rattle.spec_tokens.specs.declared.piece.TokenKind.TheVariants.{Number}

-- what a digit stands for, also a hexadecimal one
unfoldable pub digit_value : ℕ → ℕ
digit_value b = if nat_le 97 b then b - 87 else (if nat_le 65 b then b - 55 else b - 48)

-- what digits stand for in a base, behind those that stand for start
unfoldable pub value_from : ℕ → ℕ → List ℕ → ℕ
value_from base start [] = start
value_from base start (d ∷ digits) = value_from base (start * base + digit_value d) digits

-- 0x or 0X and a hexadecimal digit stand at the front
unfoldable pub is_hexadecimal : List ℕ → Bool
is_hexadecimal (first ∷ second ∷ third ∷ bytes) = first == 48 && (second == 120 || second == 88) && is_hex third
is_hexadecimal bytes = false

-- a 0 stands at the front
unfoldable pub is_zero_first : List ℕ → Bool
is_zero_first [] = false
is_zero_first (b ∷ bytes) = b == 48

-- how many bytes the longest number at the front has
unfoldable pub number_len : List ℕ → ℕ
number_len bytes =
    if is_hexadecimal bytes then 2 + prefix_len is_hex (drop 2 bytes)
    else (if is_zero_first bytes then 1 else prefix_len is_digit bytes)

-- what a number stands for
unfoldable pub number_value : List ℕ → ℕ
number_value text = if is_hexadecimal text then value_from 16 0 (drop 2 text) else value_from 10 0 text

-- the largest number that a source may hold
abbrev pub largest : ℕ
largest = 9007199254740991

-- a byte stands at the front that may not follow a number
unfoldable pub is_number_tail : List ℕ → Bool
is_number_tail [] = false
is_number_tail (b ∷ bytes) = is_part b || b == 46

-- the number at the front, the first byte of which stands at a place
unfoldable pub number : ℕ → List ℕ → Result Piece LexFault
number at bytes =
    let len = number_len bytes in
    if nat_lt largest (number_value (take len bytes)) then Err (BigLiteral at)
    else (if is_number_tail (drop len bytes) then Err (BadByte (at + len))
    else Ok (record { kind = Token Number; end = at + len }))
