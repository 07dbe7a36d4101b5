-- The tokens of a source are right: names are no reserved words, numbers are safe and the units of texts are below 256.
use Rattle.std.proofs.Common.{◌≡◌, ℕ, suc, ◌+◌, ◌<◌, Bool, true, false, cond, ◌==◌, ◌||◌, ◌&&◌, not, nat_le, nat_lt, if◌then◌else◌, take, List, [], ◌∷◌, ◌++◌, length, refl, sym, subst, inl, inr, arith}
use Rattle.std.specs.Prelude.{Option, Some, None}
use Rattle.std.specs.List.{list_all}
use Rattle.std.proofs.lemmas.Bool.Decides.{nat_tests}
use Rattle.snap_ast.specs.Words.{Each, IsName, IsNumber, IsText}
use Rattle.spec_tokens.proofs.Units.{text_read}
use Rattle.spec_tokens.specs.Byte.{is_digit, is_hex, is_in_line, is_printable}
use Rattle.spec_tokens.specs.Laws.{AreElements, AreTokens, Element, spelled, tokens_among}
use Rattle.spec_tokens.specs.Number.{number_value, value_from}
use Rattle.spec_tokens.specs.Shape as shape
use Rattle.spec_tokens.specs.Shape.{AreItems, IsItem, IsWord, joined}
use Rattle.spec_tokens.specs.Text.{escape, hex_escape, is_digit_first, single_escape, text_units}
use Rattle.spec_tokens.specs.Tokens.{Lexeme, lexemes_of, newline_behind}
use Rattle.spec_tokens.specs.Units.{AreUnits, IsUnit}
use Rattle.spec_tokens.specs.declared.piece.Escape.{Escape}
use Rattle.spec_tokens.specs.declared.piece.PieceKind.{PieceKind}
use Rattle.spec_tokens.specs.declared.piece.PieceKind.TheVariants.{Blank, LineEnd, Token}
use Rattle.spec_tokens.specs.declared.piece.TokenKind.{TokenKind}
use Rattle.spec_tokens.specs.declared.piece.TokenKind.TheVariants as kind

-- the bytes of a token are such as its kind says
abbrev pub IsRight : TokenKind → List ℕ → Type 0
IsRight kind.Name text = IsName text
IsRight kind.Word text = IsWord text []
IsRight kind.Number text = IsNumber (number_value text)
IsRight kind.Text text = IsText (text_units text)
IsRight kind.Mark text = Unit {0}

pub record AreRight (tokens : List Lexeme) : Type 0 where
  pub each : Each (λ token. IsRight token.kind token.text) tokens

-- ---- texts

-- a byte that an escape may stand for is below 256
single_small : (b : ℕ) → is_printable b ≡ true → single_escape b < 256
unfolding single_escape is_printable
single_small b e = grind (arith, nat_tests)

abbrev IsSmall : Option Escape → Type 0
IsSmall None = Unit {0}
IsSmall (Some found) = found.unit < 256

small_if : (test : Bool) (one other : Option Escape) → (test ≡ true → IsSmall one) → (test ≡ false → IsSmall other) → IsSmall (cond test one other)
small_if true one other yields fails = yields refl
small_if false one other yields fails = fails refl

and_right : (first second : Bool) → (first && second) ≡ true → second ≡ true
and_right true second e = e
and_right false second e = absurd cc

lt_small : (value : ℕ) → nat_lt value 256 ≡ true → value < 256
lt_small value e = grind (arith, nat_tests)

hex_small : (count : ℕ) (bytes : List ℕ) → IsSmall (hex_escape count bytes)
unfolding hex_escape
hex_small count bytes =
    let digits = take count bytes in
    let value = value_from 16 0 digits in
    small_if (nat_le count (length bytes) && list_all is_hex digits && nat_lt value 256) (Some (record { unit = value; len = suc count })) None
    (λ e. lt_small value (and_right (nat_le count (length bytes) && list_all is_hex digits) (nat_lt value 256) e))
    (λ e. tt)

other_printable : (first second : Bool) → (first || not second) ≡ false → second ≡ true
other_printable true second e = absurd cc
other_printable false true e = refl
other_printable false false e = absurd cc

escape_small : (bytes : List ℕ) → IsSmall (escape bytes)
unfolding escape
escape_small [] = tt
escape_small (b ∷ bytes) =
    let plain : Option Escape = if is_digit b || not (is_printable b) then None else Some (record { unit = single_escape b; len = 1 }) in
    let nul : Option Escape = if b == 48 && not (is_digit_first bytes) then Some (record { unit = 0; len = 1 }) else plain in
    small_if (b == 120) (hex_escape 2 bytes) (if b == 117 then hex_escape 4 bytes else nul) (λ e. hex_small 2 bytes)
    (λ e. small_if (b == 117) (hex_escape 4 bytes) nul (λ e. hex_small 4 bytes)
    (λ e. small_if (b == 48 && not (is_digit_first bytes)) (Some (record { unit = 0; len = 1 })) plain (λ e. lt_small 0 refl)
    (λ e. small_if (is_digit b || not (is_printable b)) None (Some (record { unit = single_escape b; len = 1 })) (λ e. tt)
    (λ e. single_small b (other_printable (is_digit b) (is_printable b) e)))))

in_line_small : (b : ℕ) → is_in_line b ≡ true → b < 256
unfolding is_in_line
in_line_small b e = grind (arith, nat_tests)

unit_small : (quote : ℕ) (item behind : List ℕ) (unit : ℕ) → IsItem quote item behind → IsUnit item behind unit → unit < 256
unit_small quote [] behind unit is is_unit = absurd is
unit_small quote (b ∷ bytes) behind unit is (inr escaped) = subst IsSmall escaped.1 (escape_small (bytes ++ behind))
unit_small quote (b ∷ bytes) behind unit (other, inl item) (inl plain) = subst (λ n. n < 256) (sym plain.1) (in_line_small b item.2)
unit_small quote (b ∷ bytes) behind unit (other, inr item) (inl plain) = absurd (not_backslash b plain.0 item.0) where
  not_backslash : (b : ℕ) → b == 92 ≡ false → b ≡ 92 → ⊥
  not_backslash b e is = grind (arith, nat_tests)

units_small : (quote : ℕ) (items : List (List ℕ)) (behind units : List ℕ) → AreItems quote items behind → AreUnits items behind units → IsText units
units_small quote [] behind [] are units_are = tt
units_small quote [] behind (unit ∷ units) are units_are = absurd units_are
units_small quote (item ∷ items) behind [] are units_are = absurd units_are
units_small quote (item ∷ items) behind (unit ∷ units) are units_are =
    (unit_small quote item (joined items ++ behind) unit are.0 units_are.0, units_small quote items behind units are.1 units_are.1)

text_right : (text rest : List ℕ) → shape.IsText text rest → IsText (text_units text)
text_right text rest (quote, items, is_quote, are, e) = subst (λ text. IsText (text_units text)) (sym e) (units_small quote items (quote ∷ rest) (text_units (quote ∷ (joined items ++ quote ∷ []))) are (text_read quote items rest is_quote are))

-- ---- tokens

word_right : (text rest : List ℕ) → IsWord text rest → IsWord text []
word_right [] rest is = is
word_right (b ∷ bytes) rest is = (is.0, is.1, tt)

token_right : (kind : TokenKind) (text rest : List ℕ) → shape.Stands (Token kind) text rest → IsRight kind text
token_right kind.Name text rest is = (word_right text rest is.0, is.1)
token_right kind.Word text rest is = word_right text rest is.0
token_right kind.Number text rest is = is.1
token_right kind.Text text rest is = text_right text rest is
token_right kind.Mark text rest is = tt

abbrev EachRight : List Lexeme → Type 0
EachRight tokens = Each (λ token. IsRight token.kind token.text) tokens

element_right : (kind : PieceKind) (text : List ℕ) (at : ℕ) (newline : Bool) (behind : List ℕ) (tokens : List Lexeme) → shape.Stands kind text behind → EachRight tokens → EachRight (lexemes_of kind text at newline ++ tokens)
element_right Blank text at newline behind tokens is each = each
element_right LineEnd text at newline behind tokens is each = each
element_right (Token kind) text at newline behind tokens is each = (token_right kind text behind is, each)

among_right : (at : ℕ) (newline : Bool) (elements : List Element) → AreElements elements → EachRight (tokens_among at newline elements)
among_right at newline [] are = tt
among_right at newline (element ∷ elements) are =
    element_right element.kind element.text at newline (spelled elements) (tokens_among (at + length element.text) (newline_behind element.kind newline) elements) are.0
    (among_right (at + length element.text) (newline_behind element.kind newline) elements are.1)

-- the tokens of a source are right
pub tokens_right : {source : List ℕ} {tokens : List Lexeme} → AreTokens source tokens → AreRight tokens
tokens_right {source} {tokens} cut = record { each = subst EachRight (sym cut.tokens) (among_right 0 false cut.elements cut.pieces) }
