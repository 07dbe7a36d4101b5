use Rattle.std.proofs.Common.{◌≡◌}
use Rattle.spec_grammar.specs.Numbered as spec
use Rattle.snap_phrase.proofs.numbered.numbers.Given as goal

-- those so far
abbrev pub invariant-loop-number : goal.invariant-loop-number
invariant-loop-number l = l.done.items ≡ spec.numbers l.behind l.yielded
