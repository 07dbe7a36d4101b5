-- What a plain store stands for after its heap changed.
use Rattle.std.proofs.Common.{◌≡◌, ℕ, List, Option}
use Rattle.snap_graph.specs.declared.node.Node.{Node}
use Rattle.snap_store.specs.declared.plain_heap.PlainHeap.{PlainHeap}
use Rattle.snap_store.specs.PlainHeaps.{heap_nodes}
use Rattle.snap_store.specs.View.{View}

abbrev heap_view : PlainHeap → Option (List (List ℕ)) → View
heap_view heap log = record { nodes = heap_nodes heap; private_nodes = heap.private_nodes; log = log }

pub written : (heap after : PlainHeap) (log : Option (List (List ℕ))) (nodes : List Node) → heap_nodes after ≡ nodes → after.private_nodes ≡ heap.private_nodes
    → heap_view after log ≡ record { nodes = nodes; private_nodes = heap.private_nodes; log = log }
written heap after log nodes e p = λ i. record { nodes = e i; private_nodes = p i; log = log }
