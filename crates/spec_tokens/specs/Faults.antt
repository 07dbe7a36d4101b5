-- The faults of a source, in the language's own words.
use Rattle.std.specs.Prelude.{◌≡◌, ℕ, ◌+◌, ◌≤◌, ◌<◌, Bool, true, false, ◌||◌, List, [], ◌∷◌, ◌++◌, length, nat_eq, codes, ◌⊎◌, None}
use Rattle.std.specs.List.{starts_with}
use Rattle.spec_tokens.specs.Byte.{is_blank, is_digit, is_line_end, is_quote, is_source, is_start}
use Rattle.spec_tokens.specs.Laws.{Element, spelled}
use Rattle.spec_tokens.specs.Mark.{is_mark}
use Rattle.spec_tokens.specs.Number.{largest, number_value}
use Rattle.spec_tokens.specs.Shape.{AreItems, IsDecimal, IsHexadecimal, Stands, is_tail, joined}
use Rattle.spec_tokens.specs.Text.{escape}
use Rattle.spec_tokens.specs.declared.fault.LexFault.{LexFault}
use Rattle.spec_tokens.specs.declared.fault.LexFault.TheVariants.{BadByte, BigLiteral, Unclosed}

-- each piece is one, before those that stand behind it and what is left
abbrev pub AreBefore : List Element → List ℕ → Type 0
AreBefore [] left = Unit {0}
AreBefore (element ∷ elements) left = Stands element.kind element.text (spelled elements ++ left) × AreBefore elements left

-- a byte that begins a piece
abbrev pub begins_piece : ℕ → Bool
begins_piece b = is_blank b || is_line_end b || is_start b || is_digit b || is_quote b || is_mark (b ∷ [])

-- the bytes of a number, however large
abbrev pub IsSpelling : List ℕ → Type 0
IsSpelling text = IsHexadecimal text ⊎ IsDecimal text

-- the bytes of a number, where no longer one stands
abbrev pub IsLiteral : List ℕ → List ℕ → Type 0
IsLiteral text rest =
    IsSpelling text × ((more behind : List ℕ) → rest ≡ more ++ behind → 0 < length more → IsSpelling (text ++ more) → ⊥)

-- nothing stands there, or a line end
abbrev pub IsLineOver : List ℕ → Type 0
IsLineOver [] = Unit {0}
IsLineOver (b ∷ rest) = is_line_end b ≡ true

-- a byte of no source, or a backslash that no escape follows
abbrev pub IsNoItem : ℕ → List ℕ → Type 0
IsNoItem b behind = (is_source b ≡ false) ⊎ ((b ≡ 92) × (escape behind ≡ None))

-- bytes of a source at which no */ begins, before what stands behind them
abbrev pub IsOpenBody : List ℕ → List ℕ → Type 0
IsOpenBody [] behind = Unit {0}
IsOpenBody (b ∷ body) behind =
    (starts_with nat_eq (b ∷ body ++ behind) (codes "*/") ≡ false) × (is_source b ≡ true) × IsOpenBody body behind

-- why no piece stands at a place, by the bytes that are left there
pub data LacksPiece (at : ℕ) (left : List ℕ) (fault : LexFault) : Type 0 where
  -- a byte that begins no piece
  NoFirst : (b : ℕ) (rest : List ℕ) → left ≡ b ∷ rest → begins_piece b ≡ false → fault ≡ BadByte at → LacksPiece at left fault
  -- a number that is too large
  LargeNumber : (text rest : List ℕ) → left ≡ text ++ rest → IsLiteral text rest → largest < number_value text → fault ≡ BigLiteral at → LacksPiece at left fault
  -- a byte that may not stand behind a number
  NumberTail : (text : List ℕ) (b : ℕ) (rest : List ℕ) → left ≡ text ++ b ∷ rest → IsLiteral text (b ∷ rest) → number_value text ≤ largest → is_tail b ≡ true → fault ≡ BadByte (at + length text) → LacksPiece at left fault
  -- a text that the end of its line leaves open
  OpenText : (quote : ℕ) (items : List (List ℕ)) (rest : List ℕ) → left ≡ quote ∷ (joined items ++ rest) → is_quote quote ≡ true → AreItems quote items rest → IsLineOver rest → fault ≡ Unclosed at → LacksPiece at left fault
  -- a text up to a byte that no source holds, or to a backslash that no escape follows
  NoItem : (quote : ℕ) (items : List (List ℕ)) (b : ℕ) (rest : List ℕ) → left ≡ quote ∷ (joined items ++ b ∷ rest) → is_quote quote ≡ true → AreItems quote items (b ∷ rest) → IsNoItem b rest → fault ≡ BadByte (at + 1 + length (joined items)) → LacksPiece at left fault
  -- a block comment that the end of the source leaves open
  OpenComment : (body : List ℕ) → left ≡ 47 ∷ 42 ∷ body → IsOpenBody body [] → fault ≡ Unclosed at → LacksPiece at left fault
  -- a block comment up to a byte that no source holds
  NoSource : (body : List ℕ) (b : ℕ) (rest : List ℕ) → left ≡ 47 ∷ 42 ∷ (body ++ b ∷ rest) → IsOpenBody body (b ∷ rest) → is_source b ≡ false → fault ≡ BadByte (at + 2 + length body) → LacksPiece at left fault

-- the source is cut into pieces, each as long as it can be, up to a place where none stands
pub record HasFault (source : List ℕ) (fault : LexFault) : Type 0 where
  pub elements : List Element
  pub left : List ℕ
  pub pieces : AreBefore elements left
  pub whole : source ≡ spelled elements ++ left
  pub lacks : LacksPiece (length (spelled elements)) left fault
