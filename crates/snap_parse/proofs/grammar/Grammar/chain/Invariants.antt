use Rattle.std.proofs.Common.{◌≡◌, ◌-◌, ◌+◌}
use Rattle.spec_grammar.specs.ReadExpressions.{chain_from}
use Rattle.spec_grammar.specs.Read.{phrase}
use Rattle.snap_parse.proofs.grammar.Grammar.chain.Given as goal

-- reading goes on from here
abbrev pub invariant-loop-turn : goal.invariant-loop-turn
invariant-loop-turn g l = chain_from (phrase l.self.room) l.self.room l.level (l.self.room + 1) l.fn.left l.fn.cursor ≡ chain_from (phrase l.self.room) l.self.room l.level (l._turn-end - l._turn) l.left l.cursor
