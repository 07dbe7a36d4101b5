-- What a store stands for.
use Rattle.std.specs.Prelude.{ℕ, ◌+◌, Bool, List, [], ◌∷◌, ◌++◌, Option}
use Rattle.snap_graph.specs.declared.kind.Kind.{Kind}
use Rattle.snap_graph.specs.declared.node.Node.{Node}
use Rattle.snap_graph.specs.declared.value.Value.{Value}
use Rattle.snap_text.specs.Keys.{logged}
use Rattle.spec_values.specs.Operations.{new_node}

-- the nodes of a heap, how many of them are private, and the texts that were asked for by `key` or `used`, in order, where the store tells them
pub record View : Type 0 where
  pub nodes : List Node
  pub private_nodes : ℕ
  pub log : Option (List (List ℕ))

-- the same with other nodes
abbrev pub with_nodes : View → List Node → View
with_nodes view nodes = record { nodes = nodes; private_nodes = view.private_nodes; log = view.log }

-- the same with one more node, which has nothing in it and is private
abbrev pub with_made : View → Kind → Value → View
with_made view kind prototype = record { nodes = view.nodes ++ new_node kind prototype ∷ []; private_nodes = view.private_nodes + 1; log = view.log }

-- the same after one more text was asked for
abbrev pub with_logged : (List ℕ → Bool) → View → List ℕ → View
with_logged leaves_out view text = record { nodes = view.nodes; private_nodes = view.private_nodes; log = logged leaves_out text view.log }
