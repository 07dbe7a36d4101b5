use Rattle.std.proofs.Common.{ℕ, List, Option}
use Rattle.snap_store.specs.Keyed.{AreNodesKeyed}
use Rattle.snap_arena.specs.Texts.{Extends}
use Rattle.snap_store.specs.Kept.{AreNodesKept}
use Rattle.snap_text.specs.declared.key.Key.{Key}
use Rattle.snap_store.proofs.plain_kept.kept_nodes.Given as goal

-- those so far
abbrev pub invariant-loop-node : goal.invariant-loop-node
invariant-loop-node l = Extends l.initial.texts l.texts × AreNodesKept l.texts l.kept.items l.yielded
    × ((key_of : List ℕ → Option Key) → AreNodesKeyed key_of l.kept.items)
