-- The order of own keys.
use Rattle.std.proofs.Common.{◌≡◌, ℕ, zero, suc, ◌<◌, ◌≤◌, ◌==◌, ◌⊎◌, inl, inr, Bool, true, false, cond, filter, List, [], ◌∷◌, refl, sym, ap, subst, ◌∙◌, ⊎_elim, arith}
use Rattle.std.specs.List.{AllByRecursion}
use Rattle.std.specs.List.Sorted.{IsNonDecreasingBy}
use Rattle.std.proofs.lemmas.Bool.{cases_lt, lt-ltb, le-ltb, eqb-true}
use Rattle.std.proofs.lemmas.List.Elements.{All-from_recursion}
use Rattle.snap_graph.specs.declared.value.Property.{Property}
use Rattle.snap_graph.specs.OwnKeys.{key_rank, own_order, put_in_order}

-- where a property stands
rank : Property → ℕ
rank property = key_rank property.key

-- a property that is put goes behind the first one where that one's place is less, and else in front of it
Put : Property → Property → List Property → Type 0
Put property first rest =
    ((rank first < rank property) × (put_in_order property (first ∷ rest) ≡ first ∷ put_in_order property rest))
    ⊎ ((rank property ≤ rank first) × (put_in_order property (first ∷ rest) ≡ property ∷ first ∷ rest))

put : (property first : Property) (rest : List Property) → Put property first rest
unfolding rank Put
put property first rest =
    ⊎_elim
    (λ (h : key_rank first.key < key_rank property.key). inl (h, rw (lt-ltb (key_rank first.key) (key_rank property.key) h) refl))
    (λ (h : key_rank property.key ≤ key_rank first.key). inr (h, rw (le-ltb (key_rank first.key) (key_rank property.key) h) refl))
    (cases_lt (key_rank first.key) (key_rank property.key))

-- none of the properties stands before a place
NoneBefore : ℕ → List Property → Type 0
NoneBefore place properties = AllByRecursion (λ q. place ≤ rank q) properties

-- the places do not fall
Ascends : List Property → Type 0
Ascends [] = Unit {0}
Ascends (p ∷ rest) = NoneBefore (rank p) rest × Ascends rest

earlier_place : (place place' : ℕ) (properties : List Property) → place' ≤ place → NoneBefore place properties → NoneBefore place' properties
unfolding NoneBefore
earlier_place place place' [] h all = tt
earlier_place place place' (p ∷ rest) h all = (omega (arith, all.0), earlier_place place place' rest h all.1)

none_before_put : (place : ℕ) (property : Property) (properties : List Property) → place ≤ rank property → NoneBefore place properties → NoneBefore place (put_in_order property properties)
unfolding NoneBefore Put
none_before_put place property [] h all = (h, tt)
none_before_put place property (first ∷ rest) h all =
    let more = none_before_put place property rest h all.1 in
    ⊎_elim
    (λ p. subst (NoneBefore place) (sym p.1) (all.0, more))
    (λ p. subst (NoneBefore place) (sym p.1) (h, all))
    (put property first rest)

ascends_put : (property : Property) (properties : List Property) → Ascends properties → Ascends (put_in_order property properties)
unfolding Ascends NoneBefore Put
ascends_put property [] h = (tt, tt)
ascends_put property (first ∷ rest) h =
    let more = ascends_put property rest h.1 in
    ⊎_elim
    (λ p. subst Ascends (sym p.1) (none_before_put (rank first) property rest (omega (arith, p.0)) h.0, more))
    (λ p. subst Ascends (sym p.1) ((p.0, earlier_place (rank first) (rank property) rest p.0 h.0), h))
    (put property first rest)

ascends_own : (properties : List Property) → Ascends (own_order properties)
unfolding Ascends
ascends_own [] = tt
ascends_own (first ∷ rest) = ascends_put first (own_order rest) (ascends_own rest)

by_index : (properties : List Property) → Ascends properties → IsNonDecreasingBy rank properties
unfolding Ascends NoneBefore
by_index [] h i j d le within = absurd (omega arith)
by_index (p ∷ rest) h zero zero d le within = omega arith
by_index (p ∷ rest) h zero (suc j) d le within = All-from_recursion (λ q. rank p ≤ rank q) rest h.0 j d (omega arith)
by_index (p ∷ rest) h (suc i) zero d le within = absurd (omega arith)
by_index (p ∷ rest) h (suc i) (suc j) d le within = by_index rest h.1 i j d (omega arith) (omega arith)

-- indices first, ascending, and then the other keys
pub ascending : (properties : List Property) → IsNonDecreasingBy (λ p. key_rank p.key) (own_order properties)
unfolding rank
ascending properties = by_index (own_order properties) (ascends_own properties)

-- two tests that do not both pass may be made in either order
exchanged : (a b : Bool) (p q : Property) (rest : List Property) → (a ≡ true → b ≡ true → ⊥) → cond b (q ∷ cond a (p ∷ rest) rest) (cond a (p ∷ rest) rest) ≡ cond a (p ∷ cond b (q ∷ rest) rest) (cond b (q ∷ rest) rest)
exchanged true true p q rest h = absurd (h refl refl)
exchanged true false p q rest h = refl
exchanged false true p q rest h = refl
exchanged false false p q rest h = refl

same_put : (place : ℕ) (property : Property) (properties : List Property) → filter (λ p. rank p == place) (put_in_order property properties) ≡ filter (λ p. rank p == place) (property ∷ properties)
unfolding Put
same_put place property [] = refl
same_put place property (first ∷ rest) =
    let at = λ (p : Property). rank p == place in
    let more = same_put place property rest in
    ⊎_elim
    (λ p.
    ap (filter at) p.1 ∙ ap (λ (xs : List Property). cond (at first) (first ∷ xs) xs) more
    ∙ exchanged (at property) (at first) property first (filter at rest) (λ e f. omega (arith, p.0, eqb-true (rank property) place e, eqb-true (rank first) place f)))
    (λ p. ap (filter at) p.1)
    (put property first rest)

same_order : (properties : List Property) (place : ℕ) → filter (λ p. rank p == place) (own_order properties) ≡ filter (λ p. rank p == place) properties
same_order [] place = refl
same_order (first ∷ rest) place =
    let at = λ (p : Property). rank p == place in
    same_put place first (own_order rest) ∙ ap (λ (xs : List Property). cond (at first) (first ∷ xs) xs) (same_order rest place)

-- the properties at a place are those that were there, in the same order
pub stable : (properties : List Property) (place : ℕ) → filter (λ p. key_rank p.key == place) (own_order properties) ≡ filter (λ p. key_rank p.key == place) properties
unfolding rank
stable properties place = same_order properties place
