use Rattle.std.proofs.Common.{◌≡◌, Ok}
use Rattle.spec_grammar.specs.ReadExpressions.{climb}
use Rattle.spec_grammar.specs.Read.{phrase}
use Rattle.snap_parse.proofs.grammar.Grammar.climb.Given as goal

-- reading goes on from here
abbrev pub invariant-loop-level : goal.invariant-loop-level
invariant-loop-level g l = climb (phrase l.self.room) l.self.room l.level l.fn.left l.fn.cursor ≡ Ok (l.left, l.cursor)
