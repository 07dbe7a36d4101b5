-- What each kind of piece is as a list of bytes, and what may stand behind it.
use Rattle.std.specs.Prelude.{◌≡◌, ℕ, ◌≤◌, Bool, true, false, ◌||◌, ◌==◌, List, [], ◌∷◌, ◌++◌, length, nat_eq, codes, ◌⊎◌, ◌<◌, Some}
use Rattle.std.specs.List.{list_any, starts_with}
use Rattle.spec_tokens.specs.Byte.{is_blank, is_digit, is_hex, is_in_line, is_line_end, is_part, is_quote, is_source, is_start}
use Rattle.spec_tokens.specs.Mark.{is_mark}
use Rattle.spec_tokens.specs.Number.{largest, number_value}
use Rattle.spec_tokens.specs.Text.{escape}
use Rattle.spec_tokens.specs.Word.{is_reserved}
use Rattle.spec_tokens.specs.declared.piece.PieceKind.{PieceKind}
use Rattle.spec_tokens.specs.declared.piece.PieceKind.TheVariants.{Blank, LineEnd, Token}
use Rattle.spec_tokens.specs.declared.piece.TokenKind.TheVariants.{Name, Word, Number, Text, Mark}

-- each byte is of the class
abbrev pub AllAre : (ℕ → Bool) → List ℕ → Type 0
AllAre p [] = Unit {0}
AllAre p (b ∷ bytes) = (p b ≡ true) × AllAre p bytes

-- what stands behind does not begin with a byte of the class
abbrev pub Stops : (ℕ → Bool) → List ℕ → Type 0
Stops p [] = Unit {0}
Stops p (b ∷ bytes) = p b ≡ false

-- a letter, _ or $, then letters, digits, _ and $, as many as there are
abbrev pub IsWord : List ℕ → List ℕ → Type 0
IsWord [] rest = ⊥
IsWord (b ∷ bytes) rest = (is_start b ≡ true) × AllAre is_part bytes × Stops is_part rest

-- 0x or 0X, and hexadecimal digits
abbrev pub IsHexadecimal : List ℕ → Type 0
IsHexadecimal (first ∷ second ∷ third ∷ bytes) = (first ≡ 48) × ((second == 120 || second == 88) ≡ true) × AllAre is_hex (third ∷ bytes)
IsHexadecimal bytes = ⊥

-- 0, or decimal digits of which the first is not 0
abbrev pub IsDecimal : List ℕ → Type 0
IsDecimal [] = ⊥
IsDecimal (b ∷ bytes) = (is_digit b ≡ true) × (((b ≡ 48) × (bytes ≡ [])) ⊎ ((b == 48 ≡ false) × AllAre is_digit bytes))

-- a byte that may not stand behind a number
abbrev pub is_tail : ℕ → Bool
is_tail b = is_part b || b == 46

-- a number that is not too large, and what may stand behind it
abbrev pub IsNumber : List ℕ → List ℕ → Type 0
IsNumber text rest = (IsHexadecimal text ⊎ IsDecimal text) × (number_value text ≤ largest) × Stops is_tail rest

-- A piece of a text: a byte of the line that is no backslash and not the quote, or a backslash and an escape.
abbrev pub IsItem : ℕ → List ℕ → List ℕ → Type 0
IsItem quote [] behind = ⊥
IsItem quote (b ∷ bytes) behind =
    (b == quote ≡ false) × (((b == 92 ≡ false) × (is_line_end b ≡ false) × (is_in_line b ≡ true) × (bytes ≡ []))
    ⊎ ((b ≡ 92) × (unit : ℕ) × (escape (bytes ++ behind) ≡ Some (record { unit = unit; len = length bytes }))))

-- the bytes of some items
abbrev pub joined : List (List ℕ) → List ℕ
joined [] = []
joined (item ∷ items) = item ++ joined items

-- items of a text, before what stands behind them
abbrev pub AreItems : ℕ → List (List ℕ) → List ℕ → Type 0
AreItems quote [] behind = Unit {0}
AreItems quote (item ∷ items) behind = IsItem quote item (joined items ++ behind) × AreItems quote items behind

-- a quote, items, and the same quote
abbrev pub IsText : List ℕ → List ℕ → Type 0
IsText text rest =
    (quote : ℕ) × (items : List (List ℕ)) × (is_quote quote ≡ true) × AreItems quote items (quote ∷ rest) × (text ≡ quote ∷ (joined items ++ quote ∷ []))

-- the bytes up to the first */, and this
abbrev pub IsCommentBody : List ℕ → Type 0
IsCommentBody [] = ⊥
IsCommentBody (b ∷ bytes) =
    ((b ∷ bytes) ≡ codes "*/") ⊎ ((starts_with nat_eq (b ∷ bytes) (codes "*/") ≡ false) × (is_source b ≡ true) × IsCommentBody bytes)

-- a comment from /* to */
abbrev pub IsBlockComment : List ℕ → Type 0
IsBlockComment text = (body : List ℕ) × (text ≡ 47 ∷ 42 ∷ body) × IsCommentBody body

-- a comment from // to the end of the line
abbrev pub IsLineComment : List ℕ → List ℕ → Type 0
IsLineComment text rest = (body : List ℕ) × (text ≡ 47 ∷ 47 ∷ body) × AllAre is_in_line body × Stops is_in_line rest

-- LF, CR LF, or CR that no LF follows
abbrev pub IsLineEnd : List ℕ → List ℕ → Type 0
IsLineEnd text rest = (text ≡ 10 ∷ []) ⊎ ((text ≡ 13 ∷ 10 ∷ []) ⊎ ((text ≡ 13 ∷ []) × Stops (λ b. b == 10) rest))

-- a mark, where no longer one and no comment stands
abbrev pub IsMark : List ℕ → List ℕ → Type 0
IsMark text rest =
    (is_mark text ≡ true) × ((more behind : List ℕ) → rest ≡ more ++ behind → 0 < length more → is_mark (text ++ more) ≡ false)
    × (starts_with nat_eq (text ++ rest) (codes "//") ≡ false) × (starts_with nat_eq (text ++ rest) (codes "/*") ≡ false)

-- the text is a piece of the kind, before what stands behind it
abbrev pub Stands : PieceKind → List ℕ → List ℕ → Type 0
Stands Blank text rest =
    ((b : ℕ) × (is_blank b ≡ true) × (text ≡ b ∷ [])) ⊎ (IsLineComment text rest ⊎ (IsBlockComment text × (list_any is_line_end text ≡ false)))
Stands LineEnd text rest = IsLineEnd text rest ⊎ (IsBlockComment text × (list_any is_line_end text ≡ true))
Stands (Token Name) text rest = IsWord text rest × (is_reserved text ≡ false)
Stands (Token Word) text rest = IsWord text rest × (is_reserved text ≡ true)
Stands (Token Number) text rest = IsNumber text rest
Stands (Token Text) text rest = IsText text rest
Stands (Token Mark) text rest = IsMark text rest
