-- Properties and elements of a lawful node after one operation.
use Rattle.std.proofs.Common.{◌≡◌, ◌≢◌, ℕ, zero, suc, ◌⊎◌, inl, inr, Bool, true, false, not, All, AllPairs, List, [], ◌∷◌, length, refl, sym, ap, subst, ◌∙◌, ⊎_elim, arith, if◌then◌else◌}
use Rattle.std.specs.List.{AllByRecursion}
use Rattle.std.specs.Str.{bytes_eq as text_eq}
use Rattle.std.proofs.lemmas.Bool.{true≢false}
use Rattle.std.proofs.lemmas.List.Elements.{All-filter, All-from_recursion, recursion_from_All}
use Rattle.std.proofs.lemmas.List.Kept.{AllPairs-filter}
use Rattle.std.proofs.lemmas.Slice.Eq.{bytes_eq-Decides}
use Rattle.snap_graph.specs.declared.kind.Kind.TheVariants as kind
use Rattle.snap_graph.specs.declared.node.Node.{Node}
use Rattle.snap_graph.specs.declared.value.Property.{Property}
use Rattle.snap_graph.specs.declared.value.Value.{Value}
use Rattle.snap_graph.specs.Lawful.{IsElementKey, IsLawfulNode}
use Rattle.snap_graph.specs.Values.{IsValue}
use Rattle.spec_values.specs.Operations.{put_under, remove_under, with_properties}

module _ (key : List ℕ) (held : Value) where
  -- what is put: in the place of a property, or behind all
  Put : Property → List Property → Type 0
  Put property rest =
      ((property.key ≡ key) × (put_under key held (property ∷ rest) ≡ record { key = property.key; value = held } ∷ rest))
      ⊎ ((property.key ≢ key) × (put_under key held (property ∷ rest) ≡ property ∷ put_under key held rest))

  put : (property : Property) (rest : List Property) → Put property rest
  unfolding Put
  put property rest = by (text_eq property.key key) refl
    where
      by : (b : Bool) → text_eq property.key key ≡ b → Put property rest
      by true e = inl ((bytes_eq-Decides property.key key).0 e, ap (λ (b : Bool). if b then record { key = property.key; value = held } ∷ rest else property ∷ put_under key held rest) e)
      by false e = inr (λ same. true≢false (sym ((bytes_eq-Decides property.key key).1 same) ∙ e), ap (λ (b : Bool). if b then record { key = property.key; value = held } ∷ rest else property ∷ put_under key held rest) e)

  -- what holds of each property, of each with the new value and of the new one holds after it is put
  all_put : (P : Property → Type 0) → ((p : Property) → P p → P (record { key = p.key; value = held })) → P (record { key = key; value = held })
      → (properties : List Property) → AllByRecursion P properties → AllByRecursion P (put_under key held properties)
  unfolding Put
  all_put P replace new [] h = (new, tt)
  all_put P replace new (property ∷ rest) h =
      let more = all_put P replace new rest h.1 in
      ⊎_elim
      (λ p. subst (AllByRecursion P) (sym p.1) (replace property h.0, h.1))
      (λ p. subst (AllByRecursion P) (sym p.1) (h.0, more))
      (put property rest)

  pub all_put_under : (P : Property → Type 0) → ((p : Property) → P p → P (record { key = p.key; value = held })) → P (record { key = key; value = held })
      → (properties : List Property) → All P properties → All P (put_under key held properties)
  all_put_under P replace new properties h =
      All-from_recursion P (put_under key held properties) (all_put P replace new properties (recursion_from_All P properties h))

  -- keys that are apart, by recursion
  Apart : List Property → Type 0
  Apart [] = Unit {0}
  Apart (property ∷ rest) = AllByRecursion (λ q. property.key ≢ q.key) rest × Apart rest

  apart_from_pairs : (properties : List Property) → AllPairs (λ one other. one.key ≢ other.key) properties → Apart properties
  unfolding Apart
  apart_from_pairs [] h = tt
  apart_from_pairs (property ∷ rest) h =
      (recursion_from_All (λ q. property.key ≢ q.key) rest (λ k d within. h zero (suc k) d (omega arith) (omega arith)), apart_from_pairs rest (λ i j d below within. h (suc i) (suc j) d (omega arith) (omega arith)))

  pairs_from_apart : (properties : List Property) → Apart properties → AllPairs (λ one other. one.key ≢ other.key) properties
  unfolding Apart
  pairs_from_apart [] h i j d below within = absurd (omega arith)
  pairs_from_apart (property ∷ rest) h i zero d below within = absurd (omega arith)
  pairs_from_apart (property ∷ rest) h zero (suc j) d below within = All-from_recursion (λ q. property.key ≢ q.key) rest h.0 j d (omega arith)
  pairs_from_apart (property ∷ rest) h (suc i) (suc j) d below within = pairs_from_apart rest h.1 i j d (omega arith) (omega arith)

  apart_put : (properties : List Property) → Apart properties → Apart (put_under key held properties)
  unfolding Apart Put
  apart_put [] h = (tt, tt)
  apart_put (property ∷ rest) h =
      let more = apart_put rest h.1 in
      ⊎_elim
      (λ p. subst Apart (sym p.1) h)
      (λ p. subst Apart (sym p.1) (all_put (λ q. property.key ≢ q.key) (λ q e. e) p.0 rest h.0, more))
      (put property rest)

  pub keys_put : (properties : List Property) → AllPairs (λ one other. one.key ≢ other.key) properties → AllPairs (λ one other. one.key ≢ other.key) (put_under key held properties)
  keys_put properties h = pairs_from_apart (put_under key held properties) (apart_put properties (apart_from_pairs properties h))

-- a lawful node with one property written or created, and with one removed
pub put_lawful : (nodes : List Node) (node : Node) (key : List ℕ) (held : Value) → IsLawfulNode nodes node → IsValue (length nodes) held → (node.kind ≡ kind.Array → IsElementKey key → ⊥)
    → IsLawfulNode nodes (with_properties (put_under key held) node)
put_lawful nodes node key held h is_value free = record {
  prototype = h.prototype;
  chain = h.chain;
  keys = keys_put key held node.properties h.keys;
  element_keys = λ e. all_put_under key held (λ p. IsElementKey p.key → ⊥) (λ p other. other) (free e) node.properties (h.element_keys e);
  values = all_put_under key held (λ p. IsValue (length nodes) p.value) (λ p old. is_value) is_value node.properties h.values;
  elements = h.elements;
  native = h.native;
}

pub removed_lawful : (nodes : List Node) (node : Node) (key : List ℕ) → IsLawfulNode nodes node → IsLawfulNode nodes (with_properties (remove_under key) node)
removed_lawful nodes node key h =
    let stays = λ (p : Property). not (text_eq p.key key) in
    record {
      prototype = h.prototype;
      chain = h.chain;
      keys = AllPairs-filter (λ one other. one.key ≢ other.key) stays node.properties h.keys;
      element_keys = λ e. All-filter stays (λ p. IsElementKey p.key → ⊥) node.properties (h.element_keys e);
      values = All-filter stays (λ p. IsValue (length nodes) p.value) node.properties h.values;
      elements = h.elements;
      native = h.native;
    }
