-- The texts of tokens are together no longer than what they were read from.
use Rattle.std.proofs.Common.{◌≡◌, ℕ, zero, suc, ◌+◌, ◌-◌, ◌≤◌, Bool, false, List, [], ◌∷◌, ◌++◌, length, take, Result, Ok, Err, refl, sym, ap, ◌∙◌, arith}
use Rattle.std.proofs.lemmas.List.{length-take}
use Rattle.spec_tokens.proofs.Cutting.{taken}
use Rattle.spec_tokens.specs.Piece.{piece}
use Rattle.spec_tokens.specs.Tokens.{Lexeme, lexemes, lexemes_from, lexemes_of, newline_behind, prepend}
use Rattle.spec_tokens.specs.declared.fault.LexFault.{LexFault}
use Rattle.spec_tokens.specs.declared.piece.PieceKind.{PieceKind}
use Rattle.spec_tokens.specs.declared.piece.PieceKind.TheVariants.{Blank, LineEnd, Token}

-- how long the texts of tokens are together
abbrev pub text_total : List Lexeme → ℕ
text_total [] = 0
text_total (l ∷ ls) = length l.text + text_total ls

pub text_total-append : (front ls : List Lexeme) → text_total (front ++ ls) ≡ text_total front + text_total ls
text_total-append [] ls = omega arith
text_total-append (l ∷ front) ls = omega (arith, text_total-append front ls)

-- a piece gives one token at the most
piece_fits : (kind : PieceKind) (text : List ℕ) (at : ℕ) (newline : Bool) → text_total (lexemes_of kind text at newline) ≤ length text
piece_fits (Token kind) text at newline = omega arith
piece_fits LineEnd text at newline = omega arith
piece_fits Blank text at newline = omega arith

-- what an answer holds
abbrev is_ok_list : List Lexeme → Result (List Lexeme) LexFault
is_ok_list ls = Ok ls

ok_list : (x y : List Lexeme) → is_ok_list x ≡ Ok y → x ≡ y
ok_list x y e = cc

-- tokens before others that were read
prepended : (front ls : List Lexeme) (r : Result (List Lexeme) LexFault) → prepend front r ≡ Ok ls → (others : List Lexeme) × (r ≡ Ok others) × (front ++ others ≡ ls)
prepended front ls (Ok others) e = (others, refl, ok_list (front ++ others) ls e)
prepended front ls (Err fault) e = cc

pub lexemes_from_fit : (passed at : ℕ) (newline : Bool) (bytes : List ℕ) (ls : List Lexeme) → lexemes_from passed at newline bytes ≡ Ok ls → text_total ls ≤ length bytes - passed
unfolding lexemes_from
lexemes_from_fit zero at newline [] ls e = rw (sym (ok_list [] ls e)) (omega arith)
lexemes_from_fit (suc passed) at newline [] ls e = rw (sym (ok_list [] ls e)) (omega arith)
lexemes_from_fit (suc passed) at newline (b ∷ bytes) ls e = omega (arith, lexemes_from_fit passed (at + 1) newline bytes ls e)
lexemes_from_fit zero at newline (b ∷ bytes) ls e =
    let found = taken (piece at (b ∷ bytes)) (λ p. prepend (lexemes_of p.kind (take (p.end - at) (b ∷ bytes)) at newline) (lexemes_from (p.end - at - 1) (at + 1) (newline_behind p.kind newline) bytes)) ls e in
    let len = found.0.end - at in
    let front = lexemes_of found.0.kind (take len (b ∷ bytes)) at newline in
    let more = prepended front ls (lexemes_from (len - 1) (at + 1) (newline_behind found.0.kind newline) bytes) found.2 in
    let behind = lexemes_from_fit (len - 1) (at + 1) (newline_behind found.0.kind newline) bytes more.0 more.1 in
    let before = piece_fits found.0.kind (take len (b ∷ bytes)) at newline in
    let total : text_total ls ≡ text_total front + text_total more.0 = ap text_total (sym more.2) ∙ text_total-append front more.0 in
    omega (arith, behind, before, total, length-take len (b ∷ bytes))

-- the texts of a source's tokens are together no longer than the source
pub texts_fit_source : (source : List ℕ) (ls : List Lexeme) → lexemes source ≡ Ok ls → text_total ls ≤ length source
unfolding lexemes
texts_fit_source source ls e = omega (arith, lexemes_from_fit 0 0 false source ls e)
