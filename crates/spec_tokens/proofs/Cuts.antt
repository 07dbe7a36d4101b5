-- The tokens of bytes, piece by piece.
use Rattle.std.proofs.Common.{◌≡◌, ℕ, zero, suc, ◌+◌, ◌-◌, ◌<◌, Bool, List, [], ◌∷◌, ◌++◌, length, take, drop, Result, Ok, Err, refl, sym, ap, ◌∙◌, append_assoc, add-zero, arith}
use Rattle.std.proofs.lemmas.List.{append-nil}
use Rattle.spec_tokens.specs.declared.fault.LexFault.{LexFault}
use Rattle.spec_tokens.specs.declared.piece.Piece.{Piece}
use Rattle.spec_tokens.specs.Piece.{piece}
use Rattle.spec_tokens.specs.Tokens.{Lexeme, lexemes_from, lexemes_of, newline_behind, prepend}

-- bytes that are passed
pub lexemes_from-passed : (passed at : ℕ) (newline : Bool) (bytes : List ℕ) → lexemes_from passed at newline bytes ≡ lexemes_from 0 (at + passed) newline (drop passed bytes)
unfolding lexemes_from
lexemes_from-passed zero at newline bytes = rw add-zero refl
lexemes_from-passed (suc passed) at newline [] = refl
lexemes_from-passed (suc passed) at newline (b ∷ bytes) =
    lexemes_from-passed passed (at + 1) newline bytes ∙ ap (λ n. lexemes_from 0 n newline (drop passed bytes)) (omega arith)

-- a piece is passed
pub lexemes_from-piece : (at len : ℕ) (newline : Bool) (bytes : List ℕ) (found : Piece) → 0 < length bytes → 0 < len → found.end ≡ at + len → piece at bytes ≡ Ok found → lexemes_from 0 at newline bytes ≡ prepend (lexemes_of found.kind (take len bytes) at newline) (lexemes_from 0 (at + len) (newline_behind found.kind newline) (drop len bytes))
unfolding lexemes_from
lexemes_from-piece at zero newline bytes found some positive e is = absurd (omega arith)
lexemes_from-piece at (suc len) newline [] found some positive e is = absurd (omega arith)
lexemes_from-piece at (suc len) newline (b ∷ bytes) found some positive e is =
    let whole : found.end - at ≡ suc len = omega arith in
    let one_less : suc len - 1 ≡ len = omega arith in
    rw (is, whole, one_less)
    (ap (prepend (lexemes_of found.kind (take (suc len) (b ∷ bytes)) at newline)) (lexemes_from-passed len (at + 1) (newline_behind found.kind newline) bytes ∙ ap (λ n. lexemes_from 0 n (newline_behind found.kind newline) (drop len bytes)) (omega arith)))

-- there is no piece
pub lexemes_from-wrong : (at : ℕ) (newline : Bool) (bytes : List ℕ) (fault : LexFault) → 0 < length bytes → piece at bytes ≡ Err fault → lexemes_from 0 at newline bytes ≡ Err fault
unfolding lexemes_from
lexemes_from-wrong at newline [] fault some is = absurd (omega arith)
lexemes_from-wrong at newline (b ∷ bytes) fault some is = rw is refl

-- nothing is left
pub lexemes_from-none : (at : ℕ) (newline : Bool) (bytes : List ℕ) → length bytes ≡ 0 → lexemes_from 0 at newline bytes ≡ Ok []
unfolding lexemes_from
lexemes_from-none at newline [] none = refl
lexemes_from-none at newline (b ∷ bytes) none = absurd (omega arith)

-- lexemes before others before a result
prepend-append : (front own : List Lexeme) (rest : Result (List Lexeme) LexFault) → prepend (front ++ own) rest ≡ prepend front (prepend own rest)
prepend-append front own (Ok lexemes) = ap Ok (append_assoc front own lexemes)
prepend-append front own (Err fault) = refl

-- what the lexemes so far and those of what is left come to stays, piece by piece
pub lexemes_from-step : (front now : List Lexeme) (whole : Result (List Lexeme) LexFault) (at : ℕ) (newline next : Bool) (bytes text rest : List ℕ) (found : Piece) → 0 < length bytes → at < found.end → piece at bytes ≡ Ok found → text ≡ take (found.end - at) bytes → rest ≡ drop (found.end - at) bytes → now ≡ front ++ lexemes_of found.kind text at newline → next ≡ newline_behind found.kind newline → prepend front (lexemes_from 0 at newline bytes) ≡ whole → prepend now (lexemes_from 0 found.end next rest) ≡ whole
lexemes_from-step front now whole at newline next bytes text rest found some positive is text_is rest_is now_is next_is so_far =
    let whole_len : at + (found.end - at) ≡ found.end = omega arith in
    let long : 0 < found.end - at = omega arith in
    let cut = lexemes_from-piece at (found.end - at) newline bytes found some long (sym whole_len) is in
    rw (now_is, next_is, rest_is, text_is)
    (prepend-append front (lexemes_of found.kind (take (found.end - at) bytes) at newline) (lexemes_from 0 found.end (newline_behind found.kind newline) (drop (found.end - at) bytes))
    ∙ ap (λ n. prepend front (prepend (lexemes_of found.kind (take (found.end - at) bytes) at newline) (lexemes_from 0 n (newline_behind found.kind newline) (drop (found.end - at) bytes)))) (sym whole_len)
    ∙ ap (prepend front) (sym cut) ∙ so_far)

-- where there is no piece, there is no list
pub lexemes_from-stop : (front : List Lexeme) (whole : Result (List Lexeme) LexFault) (at : ℕ) (newline : Bool) (bytes : List ℕ) (fault : LexFault) → 0 < length bytes → piece at bytes ≡ Err fault → prepend front (lexemes_from 0 at newline bytes) ≡ whole → whole ≡ Err fault
lexemes_from-stop front whole at newline bytes fault some is so_far =
    sym so_far ∙ ap (prepend front) (lexemes_from-wrong at newline bytes fault some is)

-- the lexemes so far are all of them
pub lexemes_from-all : (front : List Lexeme) (whole : Result (List Lexeme) LexFault) (at : ℕ) (newline : Bool) (bytes : List ℕ) → length bytes ≡ 0 → prepend front (lexemes_from 0 at newline bytes) ≡ whole → whole ≡ Ok front
lexemes_from-all front whole at newline bytes none so_far =
    sym so_far ∙ ap (prepend front) (lexemes_from-none at newline bytes none) ∙ ap Ok (append-nil front)
