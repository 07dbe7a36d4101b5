-- The tokens of a source, read from its front.
use Rattle.std.specs.Prelude.{ℕ, zero, suc, ◌+◌, ◌-◌, Bool, true, false, List, [], ◌∷◌, ◌++◌, take, Result, Ok, Err}
use Rattle.spec_tokens.specs.Text.{◌>>=◌}
use Rattle.spec_tokens.specs.Piece.{piece}
use Rattle.spec_tokens.specs.declared.fault.LexFault.{LexFault}
use Rattle.spec_tokens.specs.declared.piece.PieceKind.{PieceKind}
use Rattle.spec_tokens.specs.declared.piece.PieceKind.TheVariants.{Blank, LineEnd, Token}
use Rattle.spec_tokens.specs.declared.piece.TokenKind.{TokenKind}

-- a token: its kind, its bytes, the place of the first one, and whether a line end stands before it
pub record Lexeme : Type 0 where
  pub kind : TokenKind
  pub text : List ℕ
  pub at : ℕ
  pub after_newline : Bool

-- a piece that is a token gives one
abbrev pub lexemes_of : PieceKind → List ℕ → ℕ → Bool → List Lexeme
lexemes_of (Token kind) text at newline = record { kind = kind; text = text; at = at; after_newline = newline } ∷ []
lexemes_of LineEnd text at newline = []
lexemes_of Blank text at newline = []

-- a line end stands between the last token and what follows the piece
abbrev pub newline_behind : PieceKind → Bool → Bool
newline_behind (Token kind) newline = false
newline_behind LineEnd newline = true
newline_behind Blank newline = newline

-- lexemes before others
abbrev pub prepend : List Lexeme → Result (List Lexeme) LexFault → Result (List Lexeme) LexFault
prepend front (Ok lexemes) = Ok (front ++ lexemes)
prepend front (Err fault) = Err fault

-- the tokens of bytes that stand at a place, the first few of which are passed
unfoldable pub lexemes_from : ℕ → ℕ → Bool → List ℕ → Result (List Lexeme) LexFault
lexemes_from passed at newline [] = Ok []
lexemes_from (suc passed) at newline (b ∷ bytes) = lexemes_from passed (at + 1) newline bytes
lexemes_from zero at newline (b ∷ bytes) =
    piece at (b ∷ bytes) >>= λ piece.
    prepend (lexemes_of piece.kind (take (piece.end - at) (b ∷ bytes)) at newline)
    (lexemes_from (piece.end - at - 1) (at + 1) (newline_behind piece.kind newline) bytes)

-- the tokens of a source, or why it has none
unfoldable pub lexemes : List ℕ → Result (List Lexeme) LexFault
lexemes source = lexemes_from 0 0 false source
