-- What is kept of a list, with one more.
use Rattle.std.proofs.Common.{◌≡◌, ℕ, ◌<◌, ◌^◌, Bool, All, List, [], ◌∷◌, ◌++◌, length, map, sym, ap, subst, ◌∙◌, arith}
use Rattle.std.proofs.lemmas.List.{length-map, map-append}
use Rattle.std.proofs.lemmas.List.Elements.{All-push, All-weaker}
use Rattle.snap_arena.specs.Laws.{extends_still}
use Rattle.snap_arena.specs.Texts.{Extends}
use Rattle.snap_graph.specs.declared.kind.Kind.{Kind}
use Rattle.snap_graph.specs.declared.node.Node.{Node}
use Rattle.snap_graph.specs.declared.value.Property.{Property}
use Rattle.snap_graph.specs.declared.value.Value.{Value}
use Rattle.snap_store.specs.declared.plain_node.PlainNode.{PlainNode}
use Rattle.snap_store.specs.declared.plain_node.PlainProperty.{PlainProperty}
use Rattle.snap_store.specs.declared.plain_node.PlainValue.{PlainValue}
use Rattle.snap_store.specs.Following.{more_within, value_still}
use Rattle.snap_store.specs.Kept.{AreKept, AreNodesKept, ArePropertiesKept, IsKept, IsNodeKept}
use Rattle.snap_store.specs.Plain.{IsNodeWithin, IsWithin, node_in, property_in, value_in}
use Rattle.snap_store.proofs.Growing.{map_agrees, node_more_within, node_still, property_still}

module _ {A B : Type 0} (P : List (List ℕ) → A → Type 0) (f : List (List ℕ) → A → B)
    (still : (texts after : List (List ℕ)) (x : A) → Extends texts after → P texts x → f after x ≡ f texts x)
    (more : (texts after : List (List ℕ)) (x : A) → Extends texts after → P texts x → P after x) where
  step : (texts after : List (List ℕ)) (done next : List A) (told : List B) (x : A) (y : B)
      → All (P texts) done × (map (f texts) done ≡ told) → Extends texts after → P after x × (f after x ≡ y) → next ≡ done ++ x ∷ []
      → All (P after) next × (map (f after) next ≡ told ++ y ∷ [])
  step texts after done next told x y before grown one pushed =
      let all = All-push (P after) done x (All-weaker (P texts) (P after) (λ z. more texts after z grown) done before.0) one.0 in
      let same : map (f after) done ≡ told = map_agrees (f after) (f texts) (P texts) (λ z. still texts after z grown) done before.0 ∙ before.1 in
      let means : map (f after) (done ++ x ∷ []) ≡ told ++ y ∷ [] = map-append (f after) done (x ∷ []) ∙ ap (λ (ys : List B). ys ++ f after x ∷ []) same ∙ ap (λ (z : B). told ++ z ∷ []) one.1 in
      (subst (All (P after)) (sym pushed) all, ap (map (f after)) pushed ∙ means)

pub values_step : (texts after : List (List ℕ)) (done next : List PlainValue) (told : List Value) (x : PlainValue) (y : Value)
    → AreKept texts done told → Extends texts after → IsKept after x y → next ≡ done ++ x ∷ [] → AreKept after next (told ++ y ∷ [])
values_step = step IsWithin value_in value_still more_within

pub properties_step : (texts after : List (List ℕ)) (done next : List PlainProperty) (told : List Property) (x : PlainProperty) (y : Property)
    → ArePropertiesKept texts done told → Extends texts after → IsWithin after x.value × (property_in after x ≡ y) → next ≡ done ++ x ∷ [] → ArePropertiesKept after next (told ++ y ∷ [])
properties_step = step (λ texts p. IsWithin texts p.value) property_in property_still (λ texts after p. more_within texts after p.value)

pub nodes_step : (texts after : List (List ℕ)) (done next : List PlainNode) (told : List Node) (x : PlainNode) (y : Node)
    → AreNodesKept texts done told → Extends texts after → IsNodeKept after x y → next ≡ done ++ x ∷ [] → AreNodesKept after next (told ++ y ∷ [])
nodes_step = step IsNodeWithin node_in node_still node_more_within

-- what was kept stays so
pub value_stays : (texts after : List (List ℕ)) (held : PlainValue) (value : Value) → IsKept texts held value → Extends texts after → IsKept after held value
value_stays texts after held value kept grown = (more_within texts after held grown kept.0, value_still texts after held grown kept.0 ∙ kept.1)

pub properties_stay : (texts after : List (List ℕ)) (kept : List PlainProperty) (properties : List Property) → ArePropertiesKept texts kept properties → Extends texts after → ArePropertiesKept after kept properties
properties_stay texts after kept properties h grown = (
  All-weaker (λ (p : PlainProperty). IsWithin texts p.value) (λ p. IsWithin after p.value) (λ p. more_within texts after p.value grown) kept h.0,
  map_agrees (property_in after) (property_in texts) (λ p. IsWithin texts p.value) (λ p. property_still texts after p grown) kept h.0 ∙ h.1,
)

-- a node whose parts were kept one after another
pub node_kept : (first next last : List (List ℕ)) (kept : PlainNode) (node : Node) → IsKept first kept.prototype node.prototype → Extends first next → ArePropertiesKept next kept.properties.items node.properties
    → Extends next last → AreKept last kept.elements.items node.elements → kept.kind ≡ node.kind → kept.frozen ≡ node.frozen → length node.elements < 2 ^ 32 → IsNodeKept last kept node
node_kept first next last kept node prototype one properties other elements own_kind frozen few =
    let p = value_stays first last kept.prototype node.prototype prototype (extends_still first next last one other) in
    let ps = properties_stay next last kept.properties.items node.properties properties other in (
      record {
        prototype = p.0;
        properties = ps.0;
        elements = elements.0;
        few = omega (arith, ap length elements.1, length-map kept.elements.items (value_in last));
      },
      ap (λ (k : Kind). record { kind = k; prototype = value_in last kept.prototype; frozen = kept.frozen; properties = map (property_in last) kept.properties.items; elements = map (value_in last) kept.elements.items }) own_kind
          ∙ ap (λ (v : Value). record { kind = node.kind; prototype = v; frozen = kept.frozen; properties = map (property_in last) kept.properties.items; elements = map (value_in last) kept.elements.items }) p.1
          ∙ ap (λ (f : Bool). record { kind = node.kind; prototype = node.prototype; frozen = f; properties = map (property_in last) kept.properties.items; elements = map (value_in last) kept.elements.items }) frozen
          ∙ ap (λ (qs : List Property). record { kind = node.kind; prototype = node.prototype; frozen = node.frozen; properties = qs; elements = map (value_in last) kept.elements.items }) ps.1
          ∙ ap (λ (vs : List Value). record { kind = node.kind; prototype = node.prototype; frozen = node.frozen; properties = node.properties; elements = vs }) elements.1,
    )
