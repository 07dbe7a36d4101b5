-- The tokens of a source, in the language's own words.
use Rattle.std.specs.Prelude.{◌≡◌, ℕ, ◌+◌, Bool, false, List, [], ◌∷◌, ◌++◌, length}
use Rattle.spec_tokens.specs.Shape.{Stands}
use Rattle.spec_tokens.specs.Tokens.{Lexeme, lexemes_of, newline_behind}
use Rattle.spec_tokens.specs.declared.piece.PieceKind.{PieceKind}

-- a piece of a source: what it is, and its bytes
pub record Element : Type 0 where
  pub kind : PieceKind
  pub text : List ℕ

-- the bytes of some pieces
abbrev pub spelled : List Element → List ℕ
spelled [] = []
spelled (element ∷ elements) = element.text ++ spelled elements

-- each piece is one, before those that stand behind it
abbrev pub AreElements : List Element → Type 0
AreElements [] = Unit {0}
AreElements (element ∷ elements) = Stands element.kind element.text (spelled elements) × AreElements elements

-- the tokens among some pieces, the first of which stands at a place
abbrev pub tokens_among : ℕ → Bool → List Element → List Lexeme
tokens_among at newline [] = []
tokens_among at newline (element ∷ elements) =
    lexemes_of element.kind element.text at newline ++ tokens_among (at + length element.text) (newline_behind element.kind newline) elements

-- the source is cut into pieces, each as long as it can be, and these are the tokens among them
pub record AreTokens (source : List ℕ) (list : List Lexeme) : Type 0 where
  pub elements : List Element
  pub pieces : AreElements elements
  pub whole : source ≡ spelled elements
  pub tokens : list ≡ tokens_among 0 false elements
