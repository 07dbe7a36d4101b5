-- Marks: ECMA-262, Punctuators.
use Rattle.std.specs.Prelude.{ℕ, ◌+◌, Bool, ◌==◌, List, [], ◌∷◌, take, length, find, unwrap_or, codes, if◌then◌else◌, Result, Ok, Err}
use Rattle.std.specs.List.{list_any}
use Rattle.std.specs.Str.{bytes_eq}
use Rattle.spec_tokens.specs.declared.fault.LexFault.{LexFault}
use Rattle.spec_tokens.specs.declared.fault.LexFault.TheVariants.{BadByte}
use Rattle.spec_tokens.specs.declared.piece.Piece.{Piece}
use Rattle.spec_tokens.specs.declared.piece.PieceKind.TheVariants.{Token}
use Rattle.spec_tokens.specs.declared.piece.TokenKind.TheVariants.{Mark}

-- the marks
abbrev pub marks : List (List ℕ)
marks =
    codes ">>>=" ∷ codes "===" ∷ codes "!==" ∷ codes ">>>" ∷ codes "<<=" ∷ codes ">>=" ∷ codes "=>" ∷ codes "++" ∷
    codes "--" ∷ codes "+=" ∷ codes "-=" ∷ codes "*=" ∷ codes "/=" ∷ codes "%=" ∷ codes "&=" ∷ codes "|=" ∷ codes "^=" ∷
    codes "&&" ∷ codes "||" ∷ codes "<<" ∷ codes ">>" ∷ codes "<=" ∷ codes ">=" ∷ codes "{" ∷ codes "}" ∷ codes "(" ∷
    codes ")" ∷ codes "[" ∷ codes "]" ∷ codes "." ∷ codes ";" ∷ codes "," ∷ codes "<" ∷ codes ">" ∷ codes "+" ∷ codes "-" ∷
    codes "*" ∷ codes "/" ∷ codes "%" ∷ codes "&" ∷ codes "|" ∷ codes "^" ∷ codes "!" ∷ codes "~" ∷ codes "?" ∷ codes ":" ∷
    codes "=" ∷ []

-- the text is a mark
unfoldable pub is_mark : List ℕ → Bool
is_mark text = list_any (bytes_eq text) marks

-- how many bytes the longest mark at the front has, or 0 where there is none
unfoldable pub mark_len : List ℕ → ℕ
mark_len bytes = length (unwrap_or (find is_mark (take 4 bytes ∷ take 3 bytes ∷ take 2 bytes ∷ take 1 bytes ∷ [])) [])

-- the mark at the front, the first byte of which stands at a place
unfoldable pub mark : ℕ → List ℕ → Result Piece LexFault
mark at bytes =
    let len = mark_len bytes in
    if len == 0 then Err (BadByte at) else Ok (record { kind = Token Mark; end = at + len })
