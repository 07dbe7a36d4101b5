use Rattle.std.proofs.Common.{◌≡◌, ◌-◌}
use Rattle.spec_grammar.specs.ReadLists.{list, list_from}
use Rattle.spec_grammar.specs.Read.{phrase}
use Rattle.snap_parse.proofs.grammar.Grammar.list.Given as goal

-- reading goes on from here
abbrev pub invariant-loop-turn : goal.invariant-loop-turn
invariant-loop-turn g l = list (phrase l.self.room) l.close l.fn.row l.fn.cursor ≡ list_from (phrase l.self.room) l.close (l._turn-end - l._turn) l.row l.cursor
