-- Later worlds, what stays in common in them, and values that agree.
use Rattle.std.proofs.Common.{◌≡◌, ℕ, ◌≤◌, inl, inr, List, [], ◌∷◌, Option, None, Some, refl, sym, subst, ⊎_elim, arith}
use Rattle.std.specs.List.{AllZip}
use Rattle.snap_graph.specs.declared.pairing.Pair.{Pair}
use Rattle.snap_graph.specs.declared.value.Value.{Value}
use Rattle.snap_graph.specs.declared.value.Value.TheVariants.{Undefined, Null, Bool as Truth, Int, Text, Node as At, Empty}
use Rattle.snap_graph.specs.Matching.{Agree, AgreeAs, ArePaired}
use Rattle.snap_graph.specs.Values.{node_of}
use Rattle.laws_alike.specs.Alike.{Common, Grows, Lists, Maybe, Numbers, Same, Values, World}
use Rattle.laws_alike.specs.Going.{Stays}

pub grows_self : (world : World) → Grows world world
grows_self world = record { count = omega arith; other_count = omega arith; kept = λ a b p. p; made = λ a b p. inl p }

pub grows_on : (world after last : World) → Grows world after → Grows after last → Grows world last
grows_on world after last g h = record {
  count = omega (arith, g.count, h.count);
  other_count = omega (arith, g.other_count, h.other_count);
  kept = λ a b p. h.kept a b (g.kept a b p);
  made = λ a b p. ⊎_elim (λ q. g.made a b q) (λ (q : (after.count ≤ a) × (after.other_count ≤ b)). inr (omega (arith, g.count, q.0), omega (arith, g.other_count, q.1))) (h.made a b p);
}

-- values that agree do so where there are more pairs
agree_as_more : (pairs more : List Pair) → ((a b : ℕ) → ArePaired pairs a b → ArePaired more a b) → (u v : Value) (m n : Option ℕ) → AgreeAs pairs u v m n → AgreeAs more u v m n
agree_as_more pairs more kept u v None None h = h
agree_as_more pairs more kept u v None (Some b) h = h
agree_as_more pairs more kept u v (Some a) None h = h
agree_as_more pairs more kept u v (Some a) (Some b) h = kept a b h

pub agree_more : (pairs more : List Pair) → ((a b : ℕ) → ArePaired pairs a b → ArePaired more a b) → (u v : Value) → Agree pairs u v → Agree more u v
agree_more pairs more kept u v h = agree_as_more pairs more kept u v (node_of u) (node_of v) h

pub value_later : {world after : World} (g : Grows world after) (u v : Value) → Values world u v → Values after u v
value_later {world} {after} g u v h = agree_more world.pairs after.pairs g.kept u v h

pub values_stay : Stays Values
values_stay = record { later = λ world after g u v h. value_later g u v h }

pub numbers_stay : Stays Numbers
numbers_stay = record { later = λ world after g a b p. g.kept a b p }

pub same_stays : {A : Type 0} → Stays (Same {A = A})
same_stays = record { later = λ world after g a b e. e }

-- lists that have something else in common
pub zip_more : {A : Type 0} (R S : A → A → Type 0) → ((x y : A) → R x y → S x y) → (xs ys : List A) → AllZip R xs ys → AllZip S xs ys
zip_more R S f [] [] h = tt
zip_more R S f [] (y ∷ ys) h = absurd h
zip_more R S f (x ∷ xs) [] h = absurd h
zip_more R S f (x ∷ xs) (y ∷ ys) h = (f x y h.0, zip_more R S f xs ys h.1)

pub lists_stay : {A : Type 0} (R : Common A) → Stays R → Stays (Lists R)
lists_stay R stays = record { later = λ world after g xs ys h. zip_more (R world) (R after) (stays.later world after g) xs ys h }

-- and options
maybe_more : {A : Type 0} (R : Common A) (world after : World) → ((a b : A) → R world a b → R after a b) → (x y : Option A) → Maybe R world x y → Maybe R after x y
maybe_more R world after f None None h = tt
maybe_more R world after f None (Some b) h = absurd h
maybe_more R world after f (Some a) None h = absurd h
maybe_more R world after f (Some a) (Some b) h = f a b h

pub maybe_stays : {A : Type 0} (R : Common A) → Stays R → Stays (Maybe R)
maybe_stays R stays = record { later = λ world after g x y h. maybe_more R world after (stays.later world after g) x y h }

-- values that agree are one value that is no node, or nodes that are paired
one_value : (pairs : List Pair) (u v : Value) (n : Option ℕ) → node_of v ≡ n → AgreeAs pairs u v None n → (node_of v ≡ None) × (u ≡ v)
one_value pairs u v None e h = (e, h)
one_value pairs u v (Some b) e h = absurd h

pub two_nodes : (pairs : List Pair) (P : Value → Value → Type 0) (a : ℕ) (v : Value) → ((b : ℕ) → ArePaired pairs a b → P (At a) (At b)) → AgreeAs pairs (At a) v (Some a) (node_of v) → P (At a) v
two_nodes pairs P a Undefined f h = absurd h
two_nodes pairs P a Null f h = absurd h
two_nodes pairs P a (Truth b) f h = absurd h
two_nodes pairs P a (Int z) f h = absurd h
two_nodes pairs P a (Text text) f h = absurd h
two_nodes pairs P a (At b) f h = f b h
two_nodes pairs P a Empty f h = absurd h

pub agree_cases : (pairs : List Pair) (P : Value → Value → Type 0) → ((v : Value) → node_of v ≡ None → P v v) → ((a b : ℕ) → ArePaired pairs a b → P (At a) (At b)) → (u v : Value) → Agree pairs u v → P u v
agree_cases pairs P f g u v h = by u h
  where
    plain : (u : Value) → AgreeAs pairs u v None (node_of v) → P u v
    plain u h = let one = one_value pairs u v (node_of v) refl h in subst (λ w. P w v) (sym one.1) (f v one.0)

    by : (u : Value) → Agree pairs u v → P u v
    by Undefined h = plain Undefined h
    by Null h = plain Null h
    by (Truth b) h = plain (Truth b) h
    by (Int z) h = plain (Int z) h
    by (Text text) h = plain (Text text) h
    by (At a) h = two_nodes pairs P a v (g a) h
    by Empty h = plain Empty h
