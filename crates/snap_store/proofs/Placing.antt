-- Kept properties by their places.
use Rattle.std.proofs.Common.{◌≡◌, ◌≢◌, ℕ, zero, suc, Bool, true, false, All, AllPairs, List, [], ◌∷◌, ◌++◌, map, take, drop, get_or, set, Option, None, Some, is_some, refl, sym, ap, ◌∙◌, arith}
use Rattle.std.specs.Str.{bytes_eq as text_eq}
use Rattle.std.proofs.lemmas.Slice.Eq.{bytes_eq-Decides}
use Rattle.snap_graph.specs.declared.value.Property.{Property}
use Rattle.snap_text.specs.declared.key.Key.{Key}
use Rattle.spec_values.specs.Operations.{held_under, put_under, remove_under}
use Rattle.snap_store.specs.declared.plain_node.PlainProperty.{PlainProperty}
use Rattle.snap_store.specs.declared.plain_node.PlainValue.{PlainValue}
use Rattle.snap_store.specs.Plain.{IsPlaceOf, property_in, value_in}

is_one : (text key : List ℕ) → text ≡ key → text_eq text key ≡ true
is_one text key e = (bytes_eq-Decides text key).1 e

is_other : (text key : List ℕ) → text ≢ key → text_eq text key ≡ false
is_other text key apart = by (text_eq text key) refl
  where
    by : (b : Bool) → text_eq text key ≡ b → text_eq text key ≡ false
    by true e = absurd (apart ((bytes_eq-Decides text key).0 e))
    by false e = e

module _ (texts : List (List ℕ)) (key : List ℕ) where
  kept : List PlainProperty → List Property
  kept properties = map (property_in texts) properties

  -- a property is written in its place
  pub put_at : (value : PlainValue) (own : List ℕ) (known : Option Key) (properties : List PlainProperty) (place : ℕ) → own ≡ key → IsPlaceOf key properties (Some place)
      → map (property_in texts) (set properties place (record { key = own; known = known; value = value })) ≡ put_under key (value_in texts value) (map (property_in texts) properties)
  put_at value own known [] place same h = absurd (omega (arith, h.0))
  put_at value own known (p ∷ rest) zero same h =
      rw (is_one p.key key (h.2 p)) (ap (λ (k : List ℕ). record { key = k; value = value_in texts value } ∷ map (property_in texts) rest) (same ∙ sym (h.2 p)))
  put_at value own known (p ∷ rest) (suc place) same h =
      rw (is_other p.key key (h.1 zero p (omega arith)))
      (ap (λ (xs : List Property). property_in texts p ∷ xs) (put_at value own known rest place same (omega (arith, h.0), λ k d below. h.1 (suc k) d (omega arith), h.2)))

  none_behind : (p : PlainProperty) (rest : List PlainProperty) → All (λ property. property.key ≢ key) (p ∷ rest) → All (λ property. property.key ≢ key) rest
  none_behind p rest none k d within = none (suc k) d (omega arith)

  -- a property is created behind all others
  pub put_behind : (value : PlainValue) (known : Option Key) (properties : List PlainProperty) → All (λ property. property.key ≢ key) properties
      → map (property_in texts) (properties ++ record { key = key; known = known; value = value } ∷ []) ≡ put_under key (value_in texts value) (map (property_in texts) properties)
  put_behind value known [] none = refl
  put_behind value known (p ∷ rest) none =
      rw (is_other p.key key (none zero p (omega arith)))
      (ap (λ (xs : List Property). property_in texts p ∷ xs) (put_behind value known rest (none_behind p rest none)))

  -- where there is no property of a key, none is removed
  pub remove_none : (properties : List PlainProperty) → All (λ property. property.key ≢ key) properties
      → remove_under key (map (property_in texts) properties) ≡ map (property_in texts) properties
  remove_none [] none = refl
  remove_none (p ∷ rest) none =
      rw (is_other p.key key (none zero p (omega arith)))
      (ap (λ (xs : List Property). property_in texts p ∷ xs) (remove_none rest (none_behind p rest none)))

  -- a property is removed from its place
  pub remove_at : (properties : List PlainProperty) (place : ℕ) → IsPlaceOf key properties (Some place)
      → AllPairs (λ one other. one.key ≢ other.key) properties
      → map (property_in texts) (take place properties ++ drop (suc place) properties) ≡ remove_under key (map (property_in texts) properties)
  remove_at [] place h apart = absurd (omega (arith, h.0))
  remove_at (p ∷ rest) zero h apart =
      rw (is_one p.key key (h.2 p))
      (sym (remove_none rest (λ k d within e. apart zero (suc k) d (omega arith) (omega arith) (h.2 d ∙ sym e))))
  remove_at (p ∷ rest) (suc place) h apart =
      rw (is_other p.key key (h.1 zero p (omega arith)))
      (ap (λ (xs : List Property). property_in texts p ∷ xs)
      (remove_at rest place (omega (arith, h.0), λ k d below. h.1 (suc k) d (omega arith), h.2) (λ i j d below within. apart (suc i) (suc j) d (omega arith) (omega arith))))

  -- what a property of a key holds
  pub held_at : (properties : List PlainProperty) (place : ℕ) (property : PlainProperty) → IsPlaceOf key properties (Some place) → property ≡ get_or properties place property
      → held_under key (map (property_in texts) properties) ≡ Some (value_in texts property.value)
  held_at [] place property h at = absurd (omega (arith, h.0))
  held_at (p ∷ rest) zero property h at = rw (is_one p.key key (h.2 p)) (ap (λ (q : PlainProperty). Some (value_in texts q.value)) (sym at))
  held_at (p ∷ rest) (suc place) property h at =
      rw (is_other p.key key (h.1 zero p (omega arith)))
      (held_at rest place property (omega (arith, h.0), λ k d below. h.1 (suc k) d (omega arith), h.2) at)

  pub held_nowhere : (properties : List PlainProperty) → All (λ property. property.key ≢ key) properties
      → held_under key (map (property_in texts) properties) ≡ None
  held_nowhere [] none = refl
  held_nowhere (p ∷ rest) none = rw (is_other p.key key (none zero p (omega arith))) (held_nowhere rest (none_behind p rest none))

  pub held_somewhere : (properties : List PlainProperty) (place : ℕ) → IsPlaceOf key properties (Some place)
      → is_some (held_under key (map (property_in texts) properties)) ≡ true
  held_somewhere [] place h = absurd (omega (arith, h.0))
  held_somewhere (p ∷ rest) zero h = rw (is_one p.key key (h.2 p)) refl
  held_somewhere (p ∷ rest) (suc place) h =
      rw (is_other p.key key (h.1 zero p (omega arith)))
      (held_somewhere rest place (omega (arith, h.0), λ k d below. h.1 (suc k) d (omega arith), h.2))
