use Rattle.std.proofs.Common.{◌≡◌, length, vec_len}
use Rattle.spec_grammar.specs.Numbered as spec
use Rattle.snap_phrase.proofs.tree.numbered_nodes.Given as goal

-- those so far
abbrev pub invariant-loop-node : goal.invariant-loop-node
invariant-loop-node l = (l.done.items ≡ spec.numbered 0 l.yielded) × (vec_len l.done ≡ length l.yielded)
