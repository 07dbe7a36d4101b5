use Rattle.std.proofs.Common.{◌≡◌, ◌-◌}
use Rattle.spec_grammar.specs.ReadExpressions.{tail, tail_from}
use Rattle.spec_grammar.specs.Read.{phrase}
use Rattle.snap_parse.proofs.grammar.Grammar.tail.Given as goal

-- reading goes on from here
abbrev pub invariant-loop-turn : goal.invariant-loop-turn
invariant-loop-turn g l = tail (phrase l.self.room) l.self.room l.calls l.fn.left l.fn.cursor ≡ tail_from (phrase l.self.room) l.self.room l.calls (l._turn-end - l._turn) l.left l.cursor
