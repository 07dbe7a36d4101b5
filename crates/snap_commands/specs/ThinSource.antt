-- Which sources are thin scripts, and of which statements.
use Rattle.std.specs.Prelude.{ℕ, zero, suc, ◌+◌, ◌-◌, ◌==◌, Bool, true, false, not, ◌&&◌, ◌||◌, nat_le, List, [], ◌∷◌, Option, Some, None, Ok, Err, codes, drop, length, pos, slice_range, option_and_then, if◌then◌else◌}
use Rattle.std.specs.List.{list_all, list_any}
use Rattle.std.specs.Str.{bytes_eq}
use Rattle.snap_base.specs.declared.limits.TheConstants.{MOST_SOURCE_BYTES}
use Rattle.spec_tokens.specs.Byte.{is_blank, is_digit, is_line_end}
use Rattle.spec_tokens.specs.Number.{largest, number_value}
use Rattle.spec_tokens.specs.Tokens.{Lexeme, lexemes}
use Rattle.spec_tokens.specs.declared.piece.TokenKind.{TokenKind}
use Rattle.spec_tokens.specs.declared.piece.TokenKind.TheVariants as kind
use Rattle.snap_graph.specs.declared.value.Value.{Value}
use Rattle.snap_graph.specs.declared.value.Value.TheVariants.{Undefined, Null, Bool as Truth, Int, Text}
use Rattle.snap_commands.specs.Thin.{ThinStatement, Log, LogGlobal, Assign}

infixl 10 ◌>>=◌
abbrev pub ◌>>=◌ : {A B : Type 0} → Option A → (A → Option B) → Option B
o >>= f = option_and_then f o

-- the tokens behind one of this text
unfoldable pub expect : List ℕ → List Lexeme → Option (List Lexeme)
expect text [] = None
expect text (l ∷ ls) = if bytes_eq l.text text then Some ls else None

-- what a word stands for
unfoldable pub word_value : List ℕ → Option Value
word_value text =
    if bytes_eq text (codes "true") then Some (Truth true)
    else (if bytes_eq text (codes "false") then Some (Truth false)
    else (if bytes_eq text (codes "null") then Some Null
    else (if bytes_eq text (codes "undefined") then Some Undefined
    else None)))

-- what a decimal number stands for
unfoldable pub decimal_value : List ℕ → Option Value
decimal_value text = if list_all is_digit text && nat_le (number_value text) largest then Some (Int (pos (number_value text))) else None

-- what a text without a backslash stands for: the bytes between its quotes
unfoldable pub plain_text_value : List ℕ → Option Value
plain_text_value text = if list_any (λ b. b == 92) text then None else Some (Text (slice_range text 1 (length text - 1)))

unfoldable pub literal_value : TokenKind → List ℕ → Option Value
literal_value kind.Word text = word_value text
literal_value kind.Number text = decimal_value text
literal_value kind.Text text = plain_text_value text
literal_value kind.Name text = None
literal_value kind.Mark text = None

-- a literal at the front
unfoldable pub literal : List Lexeme → Option (Value × List Lexeme)
literal [] = None
literal (l ∷ ls) = do
  value ← literal_value l.kind l.text
  Some (value, ls)

-- the names that the global object has of its own
abbrev pub own_names : List (List ℕ)
own_names =
    codes "globalThis" ∷ codes "Object" ∷ codes "Array" ∷ codes "String" ∷ codes "Map" ∷ codes "Set" ∷ codes "Error" ∷
    codes "TypeError" ∷ codes "ReferenceError" ∷ codes "RangeError" ∷ codes "console" ∷ codes "host" ∷ codes "require" ∷ []

-- the names that mean more than a property of the global object
abbrev pub special_names : List (List ℕ)
special_names = codes "__proto__" ∷ codes "constructor" ∷ codes "hasOwnProperty" ∷ []

unfoldable pub is_free_name : List ℕ → Bool
is_free_name text = not (list_any (bytes_eq text) own_names) && not (list_any (bytes_eq text) special_names)

unfoldable pub is_name_token : TokenKind → Bool
is_name_token kind.Name = true
is_name_token kind.Word = false
is_name_token kind.Number = false
is_name_token kind.Text = false
is_name_token kind.Mark = false

-- a name at the front that a thin script may use
unfoldable pub free_name : List Lexeme → Option (List ℕ × List Lexeme)
free_name [] = None
free_name (l ∷ ls) = if is_name_token l.kind && is_free_name l.text then Some (l.text, ls) else None

-- ) and ;
unfoldable pub closed : List Lexeme → Option (List Lexeme)
closed ls = do
  rest ← expect (codes ")") ls
  expect (codes ";") rest

-- globalThis . NAME
unfoldable pub global_name : List Lexeme → Option (List ℕ × List Lexeme)
global_name ls = do
  rest ← expect (codes "globalThis") ls
  rest ← expect (codes ".") rest
  free_name rest

-- what is printed, behind the parenthesis
unfoldable pub argument : List Lexeme → Option (ThinStatement × List Lexeme)
argument ls = elim (literal ls) [
  | Some found ↦ Some (Log found.0, found.1)
  | None ↦ global_name ls >>= λ found. Some (LogGlobal found.0, found.1)
]

-- console . log ( L ) ;  or  console . log ( globalThis . NAME ) ;
unfoldable pub log_statement : List Lexeme → Option (ThinStatement × List Lexeme)
log_statement ls = do
  rest ← expect (codes "console") ls
  rest ← expect (codes ".") rest
  rest ← expect (codes "log") rest
  rest ← expect (codes "(") rest
  found ← argument rest
  rest ← closed found.1
  Some (found.0, rest)

-- globalThis . NAME = L ;
unfoldable pub assign_statement : List Lexeme → Option (ThinStatement × List Lexeme)
assign_statement ls = do
  name ← global_name ls
  rest ← expect (codes "=") name.1
  value ← literal rest
  rest ← expect (codes ";") value.1
  Some (Assign name.0 value.0, rest)

unfoldable pub thin_statement : List Lexeme → Option (ThinStatement × List Lexeme)
thin_statement ls = elim (log_statement ls) [ Some found ↦ Some found | None ↦ assign_statement ls ]

-- statements to the end, at most as many as there are tokens
unfoldable pub thin_statements : ℕ → List Lexeme → Option (List ThinStatement)
thin_statements most [] = Some []
thin_statements zero (l ∷ ls) = None
thin_statements (suc most) (l ∷ ls) = do
  found ← thin_statement (l ∷ ls)
  others ← thin_statements most found.1
  Some (found.0 ∷ others)

-- a blank or a line end
abbrev pub is_parting : ℕ → Bool
is_parting b = is_blank b || is_line_end b

-- nothing but blanks and line ends stands between the tokens, from a place on: no comment does
unfoldable pub parts_by_blanks : List ℕ → ℕ → List Lexeme → Bool
parts_by_blanks source from [] = list_all is_parting (drop from source)
parts_by_blanks source from (l ∷ ls) =
    list_all is_parting (slice_range source from l.at) && parts_by_blanks source (l.at + length l.text) ls

-- the statements of tokens of a source
unfoldable pub statements_of : List ℕ → List Lexeme → Option (List ThinStatement)
statements_of source ls = if parts_by_blanks source 0 ls then thin_statements (length ls) ls else None

-- the statements of a thin script, and none where the source is no thin script
unfoldable pub thin_script : List ℕ → Option (List ThinStatement)
thin_script source =
    if nat_le (length source) MOST_SOURCE_BYTES then elim (lexemes source) [ Ok ls ↦ statements_of source ls | Err fault ↦ None ] else None
