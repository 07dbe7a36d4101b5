-- What parts tokens: ECMA-262, White Space, Line Terminators, Comments.
use Rattle.std.specs.Prelude.{ℕ, ◌+◌, ◌-◌, List, [], ◌∷◌, take, drop, codes, nat_eq, if◌then◌else◌, Result, Ok, Err}
use Rattle.std.specs.List.{list_any, prefix_len, starts_with}
use Rattle.spec_tokens.specs.Byte.{is_in_line, is_line_end, is_source}
use Rattle.spec_tokens.specs.Text.{◌>>=◌}
use Rattle.spec_tokens.specs.declared.fault.LexFault.{LexFault}
use Rattle.spec_tokens.specs.declared.fault.LexFault.TheVariants.{BadByte, Unclosed}
use Rattle.spec_tokens.specs.declared.piece.Piece.{Piece}
use Rattle.spec_tokens.specs.declared.piece.PieceKind.{PieceKind}
use Rattle.spec_tokens.specs.declared.piece.PieceKind.TheVariants.{Blank, LineEnd}

-- how many bytes the line end at the front has: CR LF is one
unfoldable pub line_end_len : List ℕ → ℕ
line_end_len bytes = if starts_with nat_eq bytes (13 ∷ 10 ∷ []) then 2 else 1

-- the end of a block comment that starts at a place, whose next bytes stand at a place
unfoldable pub comment_end : ℕ → ℕ → List ℕ → Result ℕ LexFault
comment_end start at [] = Err (Unclosed start)
comment_end start at (b ∷ bytes) =
    if starts_with nat_eq (b ∷ bytes) (codes "*/") then Ok (at + 2)
    else (if is_source b then comment_end start (at + 1) bytes else Err (BadByte at))

-- a comment that holds a line end counts as one
unfoldable pub comment_kind : List ℕ → PieceKind
comment_kind text = if list_any is_line_end text then LineEnd else Blank

-- the block comment at the front, the first byte of which stands at a place
unfoldable pub block_comment : ℕ → List ℕ → Result Piece LexFault
block_comment at bytes =
    comment_end at (at + 2) (drop 2 bytes) >>= λ end.
    Ok (record { kind = comment_kind (take (end - at) bytes); end = end })

-- the comment at the front that runs to the end of its line
unfoldable pub line_comment : ℕ → List ℕ → Piece
line_comment at bytes = record { kind = Blank; end = at + 2 + prefix_len is_in_line (drop 2 bytes) }
