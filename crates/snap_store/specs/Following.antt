-- What was held keeps its meaning where texts and nodes come behind the others.
use Rattle.std.proofs.Common.{◌≡◌, ℕ, ◌≤◌, inl, inr, List, length, refl, ap, arith}
use Rattle.std.proofs.lemmas.List.{length-map}
use Rattle.snap_arena.specs.Laws.{held_still, text_still}
use Rattle.snap_arena.specs.Texts.{Extends}
use Rattle.snap_graph.specs.declared.value.Value.{Value}
use Rattle.snap_graph.specs.declared.value.Value.TheVariants as value
use Rattle.snap_graph.specs.Values.{IsPlace, IsValue}
use Rattle.snap_store.specs.declared.plain_node.PlainNode.{PlainNode}
use Rattle.snap_store.specs.declared.plain_node.PlainValue.{PlainValue}
use Rattle.snap_store.specs.declared.plain_node.PlainValue.TheVariants as plain
use Rattle.snap_store.specs.Plain.{IsOwn, IsWithin, node_in, nodes_in, value_in}

-- what stands in buffers stands in them when they have grown
pub more_within : (texts after : List (List ℕ)) (held : PlainValue) → Extends texts after → IsWithin texts held → IsWithin after held
more_within texts after plain.Undefined grown h = tt
more_within texts after plain.Null grown h = tt
more_within texts after (plain.Bool b) grown h = tt
more_within texts after (plain.Int z) grown h = tt
more_within texts after (plain.Text text) grown h = held_still texts after text grown h
more_within texts after (plain.Node node) grown h = tt
more_within texts after plain.Empty grown h = tt

more_value : (count more : ℕ) (v : Value) → count ≤ more → IsValue count v → IsValue more v
more_value count more value.Undefined le h = tt
more_value count more value.Null le h = tt
more_value count more (value.Bool b) le h = tt
more_value count more (value.Int z) le h = h
more_value count more (value.Text text) le h = tt
more_value count more (value.Node node) le h = omega arith
more_value count more value.Empty le h = absurd h

more_place : (count more : ℕ) (v : Value) → count ≤ more → IsPlace count v → IsPlace more v
more_place count more v le (inl e) = inl e
more_place count more v le (inr h) = inr (more_value count more v le h)

pub value_still : (texts after : List (List ℕ)) (held : PlainValue) → Extends texts after → IsWithin texts held → value_in after held ≡ value_in texts held
value_still texts after plain.Undefined grown h = refl
value_still texts after plain.Null grown h = refl
value_still texts after (plain.Bool b) grown h = refl
value_still texts after (plain.Int z) grown h = refl
value_still texts after (plain.Text text) grown h = ap value.Text (text_still texts after text grown h)
value_still texts after (plain.Node node) grown h = refl
value_still texts after plain.Empty grown h = refl

pub fewer_still : (a b c : ℕ) → a ≤ b → b ≤ c → a ≤ c
fewer_still a b c h k = omega arith

pub not_fewer : (a : ℕ) → a ≤ a
not_fewer a = omega arith

pub own_after : (texts after : List (List ℕ)) (nodes more : List PlainNode) (held : PlainValue) → Extends texts after → length nodes ≤ length more
    → IsOwn texts (length (nodes_in texts nodes)) held → IsOwn after (length (nodes_in after more)) held
own_after texts after nodes more held grown le own = (
  more_within texts after held grown own.0,
  rw (value_still texts after held grown own.0)
      (more_place (length (nodes_in texts nodes)) (length (nodes_in after more)) (value_in texts held) (omega (arith, length-map nodes (node_in texts), length-map more (node_in after))) own.1),
)

-- as many nodes stand for themselves as are kept
pub few_nodes : (texts : List (List ℕ)) (nodes : List PlainNode) (most : ℕ) → length nodes ≤ most → length (nodes_in texts nodes) ≤ most
few_nodes texts nodes most h = omega (arith, length-map nodes (node_in texts))
