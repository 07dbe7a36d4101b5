-- What the lexer says of the tokens that it answers.
use Rattle.std.proofs.Common.{◌≡◌, ℕ, ◌+◌, ◌≤◌, Bool, true, false, not, ◌&&◌, List, [], ◌∷◌, length, refl, ap, sym, arith, length-append, subst}
use Rattle.std.specs.Str.{bytes_eq}
use Rattle.spec_tokens.specs.Laws.{AreElements, AreTokens, Element, spelled, tokens_among}
use Rattle.spec_tokens.specs.Shape.{IsText, Stands, joined}
use Rattle.spec_tokens.specs.Tokens.{Lexeme}
use Rattle.spec_tokens.specs.declared.piece.PieceKind.{PieceKind}
use Rattle.spec_tokens.specs.declared.piece.PieceKind.TheVariants.{Blank, LineEnd, Token}
use Rattle.spec_tokens.specs.declared.piece.TokenKind.{TokenKind}
use Rattle.spec_tokens.specs.declared.piece.TokenKind.TheVariants as kind
use Rattle.spec_grammar.specs.Sign.{Row, marks, sign_among, sign_of, words}
use Rattle.spec_grammar.specs.declared.sign.Sign.{Sign}
use Rattle.spec_grammar.specs.declared.sign.Sign.TheVariants as s
use Rattle.snap_cursor.specs.Read.{AreRead, IsRead}

-- a number or a text
is_literal : Sign → Bool
is_literal s.Number = true
is_literal s.Text = true
is_literal sign = false

no_literal : List Row → Bool
no_literal [] = true
no_literal (row ∷ rows) = not (is_literal row.1) && no_literal rows

row_by : (test : Bool) (text : List ℕ) (row : Row) (rows : List Row) → bytes_eq text row.0 ≡ test → (not (is_literal row.1) && no_literal rows) ≡ true → (no_literal rows ≡ true → is_literal (sign_among text rows) ≡ false) → is_literal (sign_among text (row ∷ rows)) ≡ false
row_by true text row rows is lacks rest = grind arith
row_by false text row rows is lacks rest = grind arith

among : (text : List ℕ) (rows : List Row) → no_literal rows ≡ true → is_literal (sign_among text rows) ≡ false
unfolding is_literal no_literal
among text [] lacks = refl
among text (row ∷ rows) lacks = row_by (bytes_eq text row.0) text row rows refl lacks (among text rows)

text_long : (text rest : List ℕ) → IsText text rest → 2 ≤ length text
text_long text rest (quote, items, opens, are, is) =
    let e = ap length is in
    let l = length-append (joined items) (quote ∷ []) in
    omega (arith, e, l)

no_read : (kind : TokenKind) (text : List ℕ) (at : ℕ) (newline : Bool) → is_literal (sign_of kind text) ≡ false → IsRead (record { kind = kind; text = text; at = at; after_newline = newline })
unfolding is_literal
no_read kind text at newline lacks = (λ e. absurd (cc (ap is_literal e)), λ e. absurd (cc (ap is_literal e)))

token_read : (kind : TokenKind) (text rest : List ℕ) (at : ℕ) (newline : Bool) → Stands (Token kind) text rest → IsRead (record { kind = kind; text = text; at = at; after_newline = newline })
unfolding sign_of is_literal no_literal
token_read kind.Name text rest at newline stands = no_read kind.Name text at newline refl
token_read kind.Word text rest at newline stands = no_read kind.Word text at newline (among text words refl)
token_read kind.Number text rest at newline stands = (λ _. stands.1, λ e. absurd cc)
token_read kind.Text text rest at newline stands = (λ e. absurd cc, λ _. text_long text rest stands)
token_read kind.Mark text rest at newline stands = no_read kind.Mark text at newline (among text marks refl)

piece_read : (kind : PieceKind) (text rest : List ℕ) (elements : List Element) (at : ℕ) (newline : Bool) → Stands kind text rest → ((place : ℕ) (after : Bool) → AreRead (tokens_among place after elements)) → AreRead (tokens_among at newline (record { kind = kind; text = text } ∷ elements))
piece_read Blank text rest elements at newline stands others = others (at + length text) newline
piece_read LineEnd text rest elements at newline stands others = others (at + length text) true
piece_read (Token kind) text rest elements at newline stands others = (token_read kind text rest at newline stands, others (at + length text) false)

among_read : (elements : List Element) → AreElements elements → (at : ℕ) (newline : Bool) → AreRead (tokens_among at newline elements)
among_read [] are at newline = tt
among_read (element ∷ elements) are at newline =
    piece_read element.kind element.text (spelled elements) elements at newline are.0 (among_read elements are.1)

pub are_read : (source : List ℕ) (list : List Lexeme) → AreTokens source list → AreRead list
are_read source list are = subst AreRead (sym are.tokens) (among_read are.elements are.pieces 0 false)
