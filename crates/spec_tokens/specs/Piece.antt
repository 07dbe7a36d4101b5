-- The pieces of a source: tokens, and what parts them.
use Rattle.std.specs.Prelude.{ℕ, ◌+◌, List, take, drop, slice_index, codes, nat_eq, if◌then◌else◌, Result, Ok}
use Rattle.std.specs.List.{prefix_len, starts_with}
use Rattle.spec_tokens.specs.Byte.{is_blank, is_line_end, is_start, is_part, is_digit, is_quote}
use Rattle.spec_tokens.specs.Gap.{block_comment, line_comment, line_end_len}
use Rattle.spec_tokens.specs.Mark.{mark}
use Rattle.spec_tokens.specs.Number.{number}
use Rattle.spec_tokens.specs.Text.{◌>>=◌, text_end}
use Rattle.spec_tokens.specs.Word.{word_kind}
use Rattle.spec_tokens.specs.declared.fault.LexFault.{LexFault}
use Rattle.spec_tokens.specs.declared.piece.Piece.{Piece}
use Rattle.spec_tokens.specs.declared.piece.PieceKind.TheVariants.{Blank, LineEnd, Token}
use Rattle.spec_tokens.specs.declared.piece.TokenKind.TheVariants.{Text}

-- the name or reserved word at the front
unfoldable pub word : ℕ → List ℕ → Piece
word at bytes =
    let len = prefix_len is_part bytes in
    record { kind = Token (word_kind (take len bytes)); end = at + len }

-- the text at the front
unfoldable pub text : ℕ → List ℕ → Result Piece LexFault
text at bytes =
    text_end (slice_index bytes 0) at 0 (at + 1) (drop 1 bytes) >>= λ end. Ok (record { kind = Token Text; end = end })

-- the piece at the front that is no comment
unfoldable pub plain_piece : ℕ → List ℕ → Result Piece LexFault
plain_piece at bytes =
    let first = slice_index bytes 0 in
    if is_blank first then Ok (record { kind = Blank; end = at + 1 })
    else (if is_line_end first then Ok (record { kind = LineEnd; end = at + line_end_len bytes })
    else (if is_start first then Ok (word at bytes)
    else (if is_digit first then number at bytes
    else (if is_quote first then text at bytes
    else mark at bytes))))

-- the longest piece at the front, the first byte of which stands at a place, or why there is none
unfoldable pub piece : ℕ → List ℕ → Result Piece LexFault
piece at bytes =
    if starts_with nat_eq bytes (codes "//") then Ok (line_comment at bytes)
    else (if starts_with nat_eq bytes (codes "/*") then block_comment at bytes
    else plain_piece at bytes)
