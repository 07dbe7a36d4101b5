use Rattle.std.proofs.Common.{◌≡◌, ◌+◌, ◌^◌, ◌<◌, ◌≤◌, length}
use Rattle.spec_tokens.specs.Text.{text_end}
use Rattle.snap_lex.proofs.texts.text_end.Given as goal

-- the text ends where it does from the place on
abbrev pub invariant-loop-rest : goal.invariant-loop-rest
invariant-loop-rest l =
    (text_end l.quote l.start 0 l.place l.rest ≡ text_end l.quote l.start 0 l.at l.bytes) × (l.place + length l.rest ≡ l.at + length l.bytes) × (l.at ≤ l.place) × (l.at + length l.bytes < 2 ^ 32)

abbrev pub decreases-loop-rest : goal.decreases-loop-rest
decreases-loop-rest l = length l.rest
