use Rattle.std.proofs.Common.{◌≡◌}
use Rattle.spec_grammar.specs.Numbered as spec
use Rattle.snap_phrase.proofs.numbered.object_properties.Given as goal

-- those so far
abbrev pub invariant-loop-property : goal.invariant-loop-property
invariant-loop-property l = l.done.items ≡ spec.properties l.behind l.yielded
