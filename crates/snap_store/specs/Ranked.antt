-- Keys with their places among own keys.
use Rattle.snap_graph.specs.OwnKeys.{key_rank}
use Rattle.snap_store.specs.declared.plain_node.PlainProperty.{PlainProperty}
use Rattle.snap_store.specs.declared.plain_order.RankedKey.{RankedKey}

abbrev pub ranked_key : PlainProperty → RankedKey
ranked_key property = record { rank = key_rank property.key; key = property.key }
