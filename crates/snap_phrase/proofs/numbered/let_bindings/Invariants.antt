use Rattle.std.proofs.Common.{◌≡◌}
use Rattle.spec_grammar.specs.Numbered as spec
use Rattle.snap_phrase.proofs.numbered.let_bindings.Given as goal

-- those so far
abbrev pub invariant-loop-binding : goal.invariant-loop-binding
invariant-loop-binding l = l.done.items ≡ spec.bindings l.behind l.yielded
