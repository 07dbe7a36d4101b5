use Rattle.std.proofs.Common.{◌≡◌, ◌+◌, ◌^◌, ◌<◌, ◌≤◌, length}
use Rattle.spec_tokens.specs.Gap.{comment_end}
use Rattle.snap_lex.proofs.gaps.comment_end.Given as goal

-- the comment ends where it does from the place on
abbrev pub invariant-loop-rest : goal.invariant-loop-rest
invariant-loop-rest l =
    (comment_end l.start l.place l.rest ≡ comment_end l.start l.at l.bytes) × (l.place + length l.rest ≡ l.at + length l.bytes) × (l.at ≤ l.place) × (l.at + length l.bytes < 2 ^ 32)

abbrev pub decreases-loop-rest : goal.decreases-loop-rest
decreases-loop-rest l = length l.rest
