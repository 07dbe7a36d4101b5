-- Plain heaps.
use Rattle.std.specs.Prelude.{ℕ, ◌≤◌, List, [], length, slice_get}
use Rattle.std.specs.Option.{option_map_or}
use Rattle.snap_arena.specs.Texts.{Extends}
use Rattle.snap_graph.specs.declared.node.Node.{Node}
use Rattle.snap_store.specs.declared.plain_heap.PlainHeap.{PlainHeap}
use Rattle.snap_store.specs.declared.plain_node.PlainProperty.{PlainProperty}
use Rattle.snap_store.specs.declared.plain_node.PlainValue.{PlainValue}
use Rattle.snap_store.specs.Plain.{IsOwn, nodes_in}

-- the nodes that a plain heap stands for
abbrev pub heap_nodes : PlainHeap → List Node
heap_nodes heap = nodes_in heap.texts heap.nodes.items

-- the properties of a node, as the heap keeps them
abbrev pub heap_properties : PlainHeap → ℕ → List PlainProperty
heap_properties heap number = option_map_or (λ node. node.properties.items) (slice_get heap.nodes.items number) []

-- a kept value is the heap's own
abbrev pub HeapOwns : PlainHeap → PlainValue → Type 0
HeapOwns heap held = IsOwn heap.texts (length (heap_nodes heap)) held

-- a heap has come of another: its texts begin with that one's, and it has as many nodes or more
abbrev pub Follows : PlainHeap → PlainHeap → Type 0
Follows first next = Extends first.texts next.texts × (length first.nodes.items ≤ length next.nodes.items)
