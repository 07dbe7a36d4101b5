use Rattle.std.proofs.Common.{◌≡◌, ◌-◌}
use Rattle.spec_grammar.specs.ReadLists.{body, body_from}
use Rattle.spec_grammar.specs.Read.{phrase}
use Rattle.snap_parse.proofs.grammar.Grammar.body.Given as goal

-- reading goes on from here
abbrev pub invariant-loop-turn : goal.invariant-loop-turn
invariant-loop-turn g l = body (phrase l.self.room) l.fn.cursor ≡ body_from (phrase l.self.room) (l._turn-end - l._turn) l.row l.cursor
