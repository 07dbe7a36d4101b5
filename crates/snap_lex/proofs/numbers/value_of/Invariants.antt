use Rattle.std.proofs.Common.{◌≡◌, ◌≤◌, drop}
use Rattle.spec_tokens.specs.Number.{value_from, largest}
use Rattle.snap_lex.proofs.numbers.value_of.Given as goal

-- the digits that are left, behind the value so far, stand for what all of them do
abbrev pub invariant-loop-byte : goal.invariant-loop-byte
invariant-loop-byte l =
    (value_from l.base l.value (drop l.byte-index l.digits) ≡ value_from l.base 0 l.digits) × (l.value ≤ largest)
