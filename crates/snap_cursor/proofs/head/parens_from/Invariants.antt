use Rattle.std.proofs.Common.{◌≡◌, ◌+◌, length}
use Rattle.spec_grammar.specs.ReadExpressions.{parens_from}
use Rattle.snap_cursor.proofs.head.parens_from.Given as goal

-- so many parentheses, and those that the rest begins with
abbrev pub invariant-loop-count : goal.invariant-loop-count
invariant-loop-count l = (parens_from l.fn.cursor ≡ parens_from l.cursor + l.count) × (length l.cursor + l.count ≡ length l.fn.cursor)
