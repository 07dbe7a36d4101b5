use Rattle.std.proofs.Common.{◌≡◌, ◌-◌}
use Rattle.spec_grammar.specs.Read.{phrase}
use Rattle.spec_grammar.specs.ReadExpressions.{base_at}
use Rattle.snap_parse.proofs.Rise.{rise}
use Rattle.snap_parse.proofs.grammar.Grammar.group.Given as goal

-- so many parentheses are still to be closed
abbrev pub invariant-loop-closed : goal.invariant-loop-closed
invariant-loop-closed g l = base_at (phrase l.self.room) l.self.room l.count l.fn.cursor ≡ rise (phrase l.self.room) l.self.room l.fn.cursor (l.count - l.closed) l.inner l.cursor
