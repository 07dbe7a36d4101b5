-- What a token is to the grammar, and the next token of a list.
use Rattle.std.specs.Prelude.{ℕ, Bool, true, false, List, [], ◌∷◌, codes, if◌then◌else◌}
use Rattle.std.specs.Str.{bytes_eq}
use denote.Enum.Bare.{sameb}
use Rattle.spec_tokens.specs.Tokens.{Lexeme}
use Rattle.spec_tokens.specs.declared.piece.TokenKind.{TokenKind}
use Rattle.spec_tokens.specs.declared.piece.TokenKind.TheVariants as kind
use Rattle.spec_grammar.specs.contracts.sign.Sign.{the_type}
use Rattle.spec_grammar.specs.declared.sign.Sign.{Sign}
use Rattle.spec_grammar.specs.declared.sign.Sign.TheVariants as s

-- a spelling, and what it is
abbrev pub Row : Type 0
Row = List ℕ × Sign

abbrev pub sign_among : List ℕ → List Row → Sign
sign_among text [] = s.Reserved
sign_among text (row ∷ rows) = if bytes_eq text row.0 then row.1 else sign_among text rows

abbrev pub marks : List Row
marks =
    (codes "(", s.OpenParen) ∷ (codes ")", s.CloseParen) ∷ (codes "[", s.OpenSquare) ∷ (codes "]", s.CloseSquare) ∷
    (codes "{", s.OpenCurly) ∷ (codes "}", s.CloseCurly) ∷ (codes ".", s.Dot) ∷ (codes ";", s.Semicolon) ∷ (codes ",", s.Comma) ∷
    (codes "=>", s.Arrow) ∷ (codes "?", s.Question) ∷ (codes ":", s.Colon) ∷ (codes "=", s.Assign) ∷ (codes "+=", s.AddAssign) ∷
    (codes "-=", s.SubAssign) ∷ (codes "*=", s.MulAssign) ∷ (codes "/=", s.DivAssign) ∷ (codes "%=", s.RemAssign) ∷
    (codes "<<=", s.ShlAssign) ∷ (codes ">>=", s.ShrAssign) ∷ (codes ">>>=", s.UShrAssign) ∷ (codes "&=", s.AndAssign) ∷
    (codes "^=", s.XorAssign) ∷ (codes "|=", s.OrAssign) ∷ (codes "++", s.Increment) ∷ (codes "--", s.Decrement) ∷
    (codes "||", s.OrOr) ∷ (codes "&&", s.AndAnd) ∷ (codes "|", s.Or) ∷ (codes "^", s.Xor) ∷ (codes "&", s.And) ∷
    (codes "===", s.Same) ∷ (codes "!==", s.NotSame) ∷ (codes "<", s.Less) ∷ (codes ">", s.Greater) ∷ (codes "<=", s.LessEqual) ∷
    (codes ">=", s.GreaterEqual) ∷ (codes "<<", s.Shl) ∷ (codes ">>", s.Shr) ∷ (codes ">>>", s.UShr) ∷ (codes "+", s.Plus) ∷
    (codes "-", s.Minus) ∷ (codes "*", s.Star) ∷ (codes "/", s.Slash) ∷ (codes "%", s.Percent) ∷ (codes "!", s.Not) ∷
    (codes "~", s.Tilde) ∷ []

abbrev pub words : List Row
words =
    (codes "break", s.Break) ∷ (codes "catch", s.Catch) ∷ (codes "const", s.Const) ∷ (codes "continue", s.Continue) ∷
    (codes "delete", s.Delete) ∷ (codes "else", s.Else) ∷ (codes "false", s.False) ∷ (codes "finally", s.Finally) ∷
    (codes "for", s.For) ∷ (codes "function", s.Function) ∷ (codes "if", s.If) ∷ (codes "let", s.Let) ∷ (codes "new", s.New) ∷
    (codes "null", s.Null) ∷ (codes "return", s.Return) ∷ (codes "throw", s.Throw) ∷ (codes "true", s.True) ∷
    (codes "try", s.Try) ∷ (codes "typeof", s.TypeOf) ∷ (codes "undefined", s.Undefined) ∷ (codes "while", s.While) ∷ []

abbrev pub sign_by : TokenKind → List ℕ → Sign
sign_by kind.Name text = s.Name
sign_by kind.Word text = sign_among text words
sign_by kind.Number text = s.Number
sign_by kind.Text text = s.Text
sign_by kind.Mark text = sign_among text marks

-- what a token of a kind and a spelling is to the grammar
unfoldable pub sign_of : TokenKind → List ℕ → Sign
sign_of kind text = sign_by kind text

-- what the next token is
unfoldable pub sign_at : List Lexeme → Sign
sign_at [] = s.End
sign_at (lexeme ∷ rest) = sign_of lexeme.kind lexeme.text

-- the tokens behind the next one
unfoldable pub next : List Lexeme → List Lexeme
next [] = []
next (lexeme ∷ rest) = rest

-- `==` on signs
unfoldable pub same_sign : Sign → Sign → Bool
same_sign = sameb the_type

-- the next token is this one
unfoldable pub sees : Sign → List Lexeme → Bool
sees sign input = same_sign (sign_at input) sign

-- a line end stands before the next token, or there is none
unfoldable pub newline_at : List Lexeme → Bool
newline_at [] = true
newline_at (lexeme ∷ rest) = lexeme.after_newline

-- the place of the next token
unfoldable pub start_at : List Lexeme → ℕ
start_at [] = 0
start_at (lexeme ∷ rest) = lexeme.at

-- the bytes of the next token
unfoldable pub text_at : List Lexeme → List ℕ
text_at [] = []
text_at (lexeme ∷ rest) = lexeme.text

abbrev pub is_word_kind : TokenKind → Bool
is_word_kind kind.Name = true
is_word_kind kind.Word = true
is_word_kind kind = false

-- the next token is a name or a reserved word
unfoldable pub is_word_at : List Lexeme → Bool
is_word_at [] = false
is_word_at (lexeme ∷ rest) = is_word_kind lexeme.kind
