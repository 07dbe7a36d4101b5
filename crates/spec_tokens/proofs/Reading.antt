-- What stands is read.
use Rattle.std.proofs.Common.{◌≡◌, ℕ, ◌+◌, ◌<◌, Bool, true, false, List, [], ◌∷◌, ◌++◌, length, Ok, refl, sym, ap, ◌∙◌, subst, ◌⊎◌, ⊎_elim, inl, inr, arith}
use Rattle.std.proofs.lemmas.List.{take_at, drop_at, length-append}
use Rattle.spec_tokens.proofs.Cuts.{lexemes_from-piece, lexemes_from-none}
use Rattle.spec_tokens.specs.Laws.{AreElements, AreTokens, Element, spelled, tokens_among}
use Rattle.spec_tokens.specs.Piece.{piece}
use Rattle.std.specs.List.{list_any}
use Rattle.spec_tokens.proofs.Classes.{start_is_part}
use Rattle.spec_tokens.proofs.Longest.{no_empty_mark, piece-mark}
use Rattle.spec_tokens.proofs.Pieces.{piece-blank, piece-block_comment, piece-both, piece-line_comment, piece-line_feed, piece-number, piece-return, piece-text, piece-word}
use Rattle.spec_tokens.specs.Byte.{is_blank, is_line_end}
use Rattle.spec_tokens.specs.Gap.{comment_kind}
use Rattle.spec_tokens.specs.Word.{is_reserved, word_kind}
use Rattle.spec_tokens.specs.declared.piece.PieceKind.TheVariants.{Blank, LineEnd, Token}
use Rattle.spec_tokens.specs.declared.piece.TokenKind.{TokenKind}
use Rattle.spec_tokens.specs.declared.piece.TokenKind.TheVariants.{Name, Word, Number, Text, Mark}
use Rattle.spec_tokens.specs.Shape.{IsBlockComment, IsLineComment, IsMark, IsNumber, IsText, IsWord, Stands}
use Rattle.spec_tokens.specs.Tokens.{Lexeme, lexemes, lexemes_from, newline_behind}
use Rattle.spec_tokens.specs.declared.piece.PieceKind.{PieceKind}

-- what stands is not empty, and is the piece at the front
pub record IsRead (kind : PieceKind) (text rest : List ℕ) (at : ℕ) : Type 0 where
  pub some : 0 < length text
  pub read : piece at (text ++ rest) ≡ Ok (record { kind = kind; end = at + length text })

word_stands : (kind : TokenKind) (text rest : List ℕ) (at : ℕ) → IsWord text rest → word_kind text ≡ kind → IsRead (Token kind) text rest at
word_stands kind [] rest at is word = absurd is
word_stands kind (b ∷ bytes) rest at is word =
    record { some = omega arith; read = piece-word at b bytes rest is.0 (start_is_part b is.0, is.1) is.2 ∙ ap (λ kind. Ok (record { kind = Token kind; end = at + length (b ∷ bytes) })) word }

reserved_kind : (text : List ℕ) → is_reserved text ≡ true → word_kind text ≡ Word
unfolding word_kind
reserved_kind text e = rw e refl

name_kind : (text : List ℕ) → is_reserved text ≡ false → word_kind text ≡ Name
unfolding word_kind
name_kind text e = rw e refl

blank_comment : (text : List ℕ) → list_any is_line_end text ≡ false → comment_kind text ≡ Blank
unfolding comment_kind
blank_comment text e = rw e refl

line_comment_end : (text : List ℕ) → list_any is_line_end text ≡ true → comment_kind text ≡ LineEnd
unfolding comment_kind
line_comment_end text e = rw e refl

comment_stands : (kind : PieceKind) (text rest : List ℕ) (at : ℕ) → IsBlockComment text → comment_kind text ≡ kind → IsRead kind text rest at
comment_stands kind text rest at is kind_is =
    let P : List ℕ → Type 0 = λ t. comment_kind t ≡ kind → IsRead kind t rest at in
    subst P (sym is.1)
    (λ k. record { some = omega arith; read = piece-block_comment at is.0 rest is.2 ∙ ap (λ kind. Ok (record { kind = kind; end = at + length (47 ∷ 42 ∷ is.0) })) k })
    kind_is

number_stands : (text rest : List ℕ) (at : ℕ) → IsNumber text rest → IsRead (Token Number) text rest at
number_stands [] rest at is = absurd (⊎_elim (λ (hex : ⊥). hex) (λ (decimal : ⊥). decimal) is.0)
number_stands (b ∷ bytes) rest at is = record { some = omega arith; read = piece-number at b bytes rest is }

mark_stands : (text rest : List ℕ) (at : ℕ) → IsMark text rest → IsRead (Token Mark) text rest at
mark_stands [] rest at is = absurd (no_empty_mark is.0)
mark_stands (b ∷ bytes) rest at is = record { some = omega arith; read = piece-mark at b bytes rest is }

text_stands : (text rest : List ℕ) (at : ℕ) → IsText text rest → IsRead (Token Text) text rest at
text_stands text rest at is =
    let P : List ℕ → Type 0 = λ t. IsRead (Token Text) t rest at in
    subst P (sym is.4) (record { some = omega arith; read = piece-text at is.0 is.1 rest is.2 is.3 })

pub stands_read : (kind : PieceKind) (text rest : List ℕ) (at : ℕ) → Stands kind text rest → IsRead kind text rest at
stands_read Blank text rest at stands =
    ⊎_elim
    (λ (one : (b : ℕ) × (is_blank b ≡ true) × (text ≡ b ∷ [])).
    let P : List ℕ → Type 0 = λ t. IsRead Blank t rest at in
    subst P (sym one.2) (record { some = omega arith; read = piece-blank at one.0 rest one.1 }))
    (λ (comment : IsLineComment text rest ⊎ (IsBlockComment text × (list_any is_line_end text ≡ false))).
    ⊎_elim
    (λ (line : IsLineComment text rest).
    let P : List ℕ → Type 0 = λ t. IsRead Blank t rest at in
    subst P (sym line.1) (record { some = omega arith; read = piece-line_comment at line.0 rest line.2 line.3 }))
    (λ (block : IsBlockComment text × (list_any is_line_end text ≡ false)). comment_stands Blank text rest at block.0 (blank_comment text block.1))
    comment)
    stands
stands_read LineEnd text rest at (inl (inl feed)) =
    let P : List ℕ → Type 0 = λ t. IsRead LineEnd t rest at in
    subst P (sym feed) (record { some = omega arith; read = piece-line_feed at rest })
stands_read LineEnd text rest at (inl (inr (inl both))) =
    let P : List ℕ → Type 0 = λ t. IsRead LineEnd t rest at in
    subst P (sym both) (record { some = omega arith; read = piece-both at rest })
stands_read LineEnd text rest at (inl (inr (inr return))) =
    let P : List ℕ → Type 0 = λ t. IsRead LineEnd t rest at in
    subst P (sym return.0) (record { some = omega arith; read = piece-return at rest return.1 })
stands_read LineEnd text rest at (inr block) = comment_stands LineEnd text rest at block.0 (line_comment_end text block.1)
stands_read (Token Name) text rest at stands = word_stands Name text rest at stands.0 (name_kind text stands.1)
stands_read (Token Word) text rest at stands = word_stands Word text rest at stands.0 (reserved_kind text stands.1)
stands_read (Token Number) text rest at stands = number_stands text rest at stands
stands_read (Token Text) text rest at stands = text_stands text rest at stands
stands_read (Token Mark) text rest at stands = mark_stands text rest at stands

pub elements_are_read : (at : ℕ) (newline : Bool) (elements : List Element) → AreElements elements → lexemes_from 0 at newline (spelled elements) ≡ Ok (tokens_among at newline elements)
elements_are_read at newline [] stand = lexemes_from-none at newline [] refl
elements_are_read at newline (element ∷ elements) stand =
    let read = stands_read element.kind element.text (spelled elements) at stand.0 in
    let whole_len = length-append element.text (spelled elements) in
    let long : 0 < length (element.text ++ spelled elements) = omega (arith, read.some, whole_len) in
    let cut = lexemes_from-piece at (length element.text) newline (element.text ++ spelled elements) (record { kind = element.kind; end = at + length element.text }) long read.some refl read.read in
    let front = take_at element.text (spelled elements) (length element.text) refl in
    let behind = drop_at element.text (spelled elements) (length element.text) refl in
    let more = elements_are_read (at + length element.text) (newline_behind element.kind newline) elements stand.1 in
    rw (cut, front, behind, more) refl

pub list_is_read : (source : List ℕ) (list : List Lexeme) → AreTokens source list → lexemes source ≡ Ok list
unfolding lexemes
list_is_read source list are =
    ap (lexemes_from 0 0 false) are.whole ∙ elements_are_read 0 false are.elements are.pieces ∙ ap Ok (sym are.tokens)
