use Rattle.std.proofs.Common.{◌≡◌, ◌-◌}
use Rattle.spec_grammar.specs.ReadStatements.{const_bindings, const_bindings_from}
use Rattle.spec_grammar.specs.Read.{phrase}
use Rattle.snap_parse.proofs.grammar.Grammar.const_bindings.Given as goal

-- reading goes on from here
abbrev pub invariant-loop-turn : goal.invariant-loop-turn
invariant-loop-turn g l = const_bindings (phrase l.self.room) l.fn.cursor ≡ const_bindings_from (phrase l.self.room) (l._turn-end - l._turn) l.row l.cursor
