use Rattle.std.proofs.Common.{◌≡◌, ◌-◌}
use Rattle.spec_grammar.specs.ReadExpressions.{properties, properties_from}
use Rattle.spec_grammar.specs.Read.{phrase}
use Rattle.snap_parse.proofs.grammar.Grammar.properties.Given as goal

-- reading goes on from here
abbrev pub invariant-loop-turn : goal.invariant-loop-turn
invariant-loop-turn g l = properties (phrase l.self.room) l.self.room l.fn.cursor ≡ properties_from (phrase l.self.room) l.self.room (l._turn-end - l._turn) l.row l.cursor
