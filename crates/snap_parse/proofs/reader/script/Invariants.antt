use Rattle.std.proofs.Common.{◌≡◌, ◌-◌}
use Rattle.spec_grammar.specs.Read.{script, script_from}
use Rattle.snap_parse.proofs.reader.script.Given as goal

-- reading goes on from here
abbrev pub invariant-loop-turn : goal.invariant-loop-turn
invariant-loop-turn l = script l.fn.cursor ≡ script_from (l._turn-end - l._turn) l.row l.cursor
