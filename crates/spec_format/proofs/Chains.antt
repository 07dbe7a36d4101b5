-- Shapes each of which stands on the one before.
use Rattle.std.proofs.Common.{◌≡◌, ◌≢◌, ℕ, zero, suc, ◌+◌, ◌<◌, ◌≤◌, add-one, All, AllPairs, Contains, List, [], ◌∷◌, ◌++◌, length, get_or, take, slice_get, Some, sym, ap, subst, ◌∙◌, refl, arith}
use Rattle.std.proofs.lemmas.List.{take_more, take_all, get_or-take, length-take-le, get_or_default}
use Rattle.std.proofs.lemmas.Option.{slice_get-get_or, slice_get_within, some_pair_parts}
use Rattle.spec_format.specs.Shapes.{AreLawful, HasKeys, Root, Child, chain_from}

length-chain_from : (i : ℕ) (names : List ℕ) → length (chain_from i names) ≡ length names
length-chain_from i [] = refl
length-chain_from i (name ∷ names) = ap suc (length-chain_from (i + 1) names)

-- the shape at a place
get_or-chain_from : (i : ℕ) (names : List ℕ) (n : ℕ) (d : ℕ × ℕ) → n < length names → get_or (chain_from i names) n d ≡ (i + n, get_or names n 0)
get_or-chain_from i [] n d lt = absurd (omega arith)
get_or-chain_from i (name ∷ names) zero d lt = let e : i ≡ i + 0 = omega arith in ap (λ (k : ℕ). (k, name)) e
get_or-chain_from i (name ∷ names) (suc n) d lt =
    let e : i + 1 + n ≡ i + suc n = omega arith in
    get_or-chain_from (i + 1) names n d (omega arith) ∙ ap (λ (k : ℕ). (k, get_or names n 0)) e

slice_get-chain_from : (names : List ℕ) (n : ℕ) → n < length names → slice_get (chain_from 0 names) n ≡ Some (n, get_or names n 0)
slice_get-chain_from names n lt =
    let e : 0 + n ≡ n = omega arith in
    slice_get-get_or (chain_from 0 names) n (0, 0) (omega (arith, length-chain_from 0 names))
    ∙ ap Some (get_or-chain_from 0 names n (0, 0) lt ∙ ap (λ (k : ℕ). (k, get_or names n 0)) e)

-- what is read at a place
pub record IsLink (names : List ℕ) (n parent name : ℕ) : Type 0 where
  pub within : n < length names
  pub parent_is : parent ≡ n
  pub name_is : name ≡ get_or names n 0

link : (names : List ℕ) (n parent name : ℕ) → slice_get (chain_from 0 names) n ≡ Some (parent, name) → IsLink names n parent name
link names n parent name e =
    let small = slice_get_within (chain_from 0 names) n (parent, name) e in
    let within : n < length names = omega (arith, length-chain_from 0 names) in
    let parts = some_pair_parts n parent (get_or names n 0) name (sym (slice_get-chain_from names n within) ∙ e) in
    record { within = within; parent_is = sym parts.0; name_is = sym parts.1 }

-- shape s of a chain has the first s names
first_keys : (names : List ℕ) (s : ℕ) (keys : List ℕ) → HasKeys (chain_from 0 names) s keys → keys ≡ take s names
first_keys names s keys Root = refl
first_keys names s keys (Child n parent name before e h) =
    let at = link names n parent name e in
    let same : before ≡ take n names = first_keys names parent before h ∙ ap (λ k. take k names) at.parent_is in
    let more : take (n + 1) names ≡ take n names ++ get_or names n 0 ∷ [] = take_more names n 0 at.within in
    let next : take (suc n) names ≡ take (n + 1) names = ap (λ k. take k names) (sym (add-one n)) in
    ap (λ w. w ++ name ∷ []) same ∙ ap (λ x. take n names ++ x ∷ []) at.name_is ∙ sym more ∙ sym next

keys_upto : (names : List ℕ) (s : ℕ) → s ≤ length names → HasKeys (chain_from 0 names) s (take s names)
keys_upto names zero le = Root
keys_upto names (suc s) le =
    let more : take (s + 1) names ≡ take s names ++ get_or names s 0 ∷ [] = take_more names s 0 (omega arith) in
    let next : take (suc s) names ≡ take (s + 1) names = ap (λ k. take k names) (sym (add-one s)) in
    subst (HasKeys (chain_from 0 names) (suc s)) (sym (next ∙ more))
    (Child s s (get_or names s 0) (take s names) (slice_get-chain_from names s (omega arith)) (keys_upto names s (omega arith)))

-- the last shape of a chain has all its names
pub chain_keys : (names : List ℕ) → HasKeys (chain_from 0 names) (length names) names
chain_keys names = subst (HasKeys (chain_from 0 names) (length names)) (take_all (length names) names (omega arith)) (keys_upto names (length names) (omega arith))

-- no name stands among those before it
name_is_new : (names : List ℕ) (n name : ℕ) → AllPairs (λ a b. a ≢ b) names → n < length names → name ≡ get_or names n 0 → Contains (take n names) name → ⊥
name_is_new names n name apart lt is (k, within, found) =
    let below : k < n = omega (arith, length-take-le n names (omega arith)) in
    let there : get_or names k name ≡ name = sym (get_or-take n names k name below) ∙ found in
    apart k n name below lt (there ∙ is ∙ get_or_default names n 0 name lt)

-- names of strings of which none stands twice make a lawful chain
pub chain_lawful : (strings : ℕ) (names : List ℕ) → All (λ name. name < strings) names → AllPairs (λ a b. a ≢ b) names → AreLawful strings (chain_from 0 names)
chain_lawful strings names below apart = record {
  parents = λ n parent name e. let at = link names n parent name e in omega (arith, at.parent_is);
  names = λ n d within.
      let lt : n < length names = omega (arith, length-chain_from 0 names) in
      subst (λ (shape : ℕ × ℕ). shape.1 < strings) (sym (get_or-chain_from 0 names n d lt)) (below n 0 lt);
  fresh = λ n parent name keys e h has.
      let at = link names n parent name e in
      let same : keys ≡ take n names = first_keys names parent keys h ∙ ap (λ k. take k names) at.parent_is in
      name_is_new names n name apart at.within at.name_is (subst (λ w. Contains w name) same has);
  apart = λ i j d lt within e.
      let inside : j < length names = omega (arith, length-chain_from 0 names) in
      let one = get_or-chain_from 0 names i d (omega arith) in
      let other = get_or-chain_from 0 names j d inside in
      let same : 0 + i ≡ 0 + j = ap (λ (shape : ℕ × ℕ). shape.0) (sym one ∙ e ∙ other) in
      omega (arith, same);
}
