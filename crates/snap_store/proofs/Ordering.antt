-- Kept properties in the order of own keys.
use Rattle.std.proofs.Common.{◌≡◌, ℕ, ◌==◌, List, [], filter, map, sym, ap, ◌∙◌}
use Rattle.std.specs.List.Sorted.{IsNonDecreasingBy}
use Rattle.std.proofs.lemmas.List.{length-map}
use Rattle.snap_graph.specs.declared.value.Property.{Property}
use Rattle.snap_graph.specs.declared.value.Value.TheVariants as value
use Rattle.snap_graph.specs.OwnKeys.{key_rank, own_order}
use Rattle.snap_store.specs.declared.plain_node.PlainProperty.{PlainProperty}
use Rattle.snap_store.specs.declared.plain_order.RankedKey.{RankedKey}
use Rattle.snap_store.specs.Plain.{property_in}
use Rattle.snap_store.specs.Ranked.{ranked_key}
use Rattle.snap_store.proofs.Sorting.{filter-map, map-map, map_rises, one_order}

-- a property, as its ranked key
in_rank : Property → RankedKey
in_rank property = record { rank = key_rank property.key; key = property.key }

-- the law of own keys, at some properties
pub record AreInOrder (properties : List Property) : Type 0 where
  pub ascending : IsNonDecreasingBy (λ p. key_rank p.key) (own_order properties)
  pub stable : (place : ℕ) → filter (λ p. key_rank p.key == place) (own_order properties) ≡ filter (λ p. key_rank p.key == place) properties

pub ordered_keys : (texts : List (List ℕ)) (properties : List PlainProperty) (sorted : List RankedKey) → AreInOrder (map (property_in texts) properties) → IsNonDecreasingBy (λ one. one.rank) sorted
    → ((rank : ℕ) → filter (λ one. one.rank == rank) sorted ≡ filter (λ one. one.rank == rank) (map ranked_key properties))
    → map (λ one. one.key) sorted ≡ map (λ property. property.key) (own_order (map (property_in texts) properties))
unfolding in_rank
ordered_keys texts properties sorted law rises stays =
    let told = map (property_in texts) properties in
    let one = map in_rank (own_order told) in
    let one_rises = map_rises in_rank (λ (k : RankedKey). k.rank) (record { key = []; value = value.Undefined }) (own_order told) (length-map (own_order told) in_rank) law.ascending in
    let one_stays : (rank : ℕ) → filter (λ k. k.rank == rank) one ≡ filter (λ k. k.rank == rank) (map ranked_key properties) = λ rank.
    filter-map in_rank (λ (k : RankedKey). k.rank == rank) (own_order told)
    ∙ ap (map in_rank) (law.stable rank)
    ∙ sym (filter-map in_rank (λ (k : RankedKey). k.rank == rank) told)
    ∙ ap (filter (λ (k : RankedKey). k.rank == rank)) (map-map (property_in texts) in_rank properties) in
    let same : sorted ≡ one = one_order (λ (k : RankedKey). k.rank) sorted one rises one_rises (λ rank. stays rank ∙ sym (one_stays rank)) in
    ap (map (λ (k : RankedKey). k.key)) same ∙ map-map in_rank (λ (k : RankedKey). k.key) (own_order told)
