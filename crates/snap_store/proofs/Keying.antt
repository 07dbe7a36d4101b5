-- What is known of keys while texts get keys.
use Rattle.std.proofs.Common.{ℕ, List, Option}
use Rattle.snap_text.specs.declared.key.Key.{Key}
use Rattle.snap_text.specs.Keys.{Keeps}
use Rattle.snap_store.specs.declared.plain_node.PlainNode.{PlainNode}
use Rattle.snap_store.specs.Keyed.{AreNodesKeyed}

pub keyed_still : (before after : List ℕ → Option Key) (nodes : List PlainNode) → Keeps before after → AreNodesKeyed before nodes → AreNodesKeyed after nodes
keyed_still before after nodes kept all = λ k d below i e within key known. kept _ key (all k d below i e within key known)
