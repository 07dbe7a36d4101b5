use Rattle.std.proofs.Common.{◌≡◌, ◌≢◌, ℕ, ◌<◌, List, Some, get_or}
use Rattle.snap_store.specs.declared.plain_node.PlainProperty.{PlainProperty}
use Rattle.snap_store.proofs.plain_place.place_of.Given as goal

abbrev pub invariant-loop-place : goal.invariant-loop-place
invariant-loop-place g l = (text : List ℕ) → g.K.Keys.key_of l.keys text ≡ Some l.key → (k : ℕ) (d : PlainProperty) → k < l.place → (get_or l.properties k d).key ≢ text
