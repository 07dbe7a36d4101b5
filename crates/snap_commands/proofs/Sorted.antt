-- Texts that are put into a set, and the strings that come out of it.
use Rattle.std.proofs.Common.{◌≡◌, ℕ, suc, ◌+◌, ◌<◌, ◌≤◌, Bool, true, false, ◌||◌, List, [], ◌∷◌, ◌++◌, All, length, get_or, zero, length-append, append_assoc, subst, refl, sym, ap, ◌∙◌, arith}
use Rattle.std.specs.BTreeSet.{insert_key}
use Rattle.std.specs.Borrow.{Bor}
use Rattle.std.specs.Cmp.Lexicographic.{slice_cmp}
use Rattle.std.specs.List.{concat, list_any}
use Rattle.std.specs.List.Sorted.{IsStrictlySortedBy}
use Rattle.std.specs.Ordering.{match_ordering, nat_cmp}
use Rattle.std.specs.Prelude.{take}
use Rattle.std.specs.Str.{bytes_eq}
use Rattle.std.specs.declared.cmp.Ordering.{Ordering}
use Rattle.std.specs.declared.cmp.Ordering.TheVariants.{Less, Equal, Greater}
use Rattle.std.proofs.lemmas.List.{map-append, take_all, take_more}
use Rattle.std.proofs.lemmas.List.Elements.{All-append}
use Rattle.std.proofs.lemmas.Map.Lookups.{exact_bytes}
use Rattle.snap_base.specs.declared.limits.TheConstants.{MOST_ITEMS}
use Rattle.spec_format.specs.Number.{AreBytes}
use Rattle.spec_format.specs.Strings.{AreStrings, IsAscending}
use Rattle.snap_commands.specs.Globals.{spelled}
use Rattle.snap_commands.specs.Strings.{AreOf, mass}

-- the order of texts that were lent
abbrev pub lent_order : Bor (List ℕ) → Bor (List ℕ) → Ordering
lent_order a b = slice_cmp nat_cmp a.now b.now

-- keys that ascend are strings that ascend
pub spelled_ascend : (keys : List (Bor (List ℕ))) → IsStrictlySortedBy lent_order keys → IsAscending (spelled keys)
unfolding IsStrictlySortedBy
spelled_ascend [] up = tt
spelled_ascend (k ∷ []) up = tt
spelled_ascend (k ∷ l ∷ keys) up = (up.0.0, spelled_ascend (l ∷ keys) up.1)

-- a set of texts that takes one more
pub spelled_inserted : (keys : List (Bor (List ℕ))) (k : Bor (List ℕ)) → spelled (insert_key lent_order keys k) ≡ insert_key (slice_cmp nat_cmp) (spelled keys) k.now
spelled_inserted [] k = refl
spelled_inserted (x ∷ xs) k =
    elim (lent_order k x) as (λ o. spelled (match_ordering o (k ∷ x ∷ xs) (x ∷ xs) (x ∷ insert_key lent_order xs k)) ≡ match_ordering o (k.now ∷ x.now ∷ spelled xs) (x.now ∷ spelled xs) (x.now ∷ insert_key (slice_cmp nat_cmp) (spelled xs) k.now)) [
      | Less ↦ refl
      | Equal ↦ refl
      | Greater ↦ ap (λ (texts : List (List ℕ)). x.now ∷ texts) (spelled_inserted xs k)
    ]

or_turns : (a b : Bool) → (a || b) ≡ (b || a)
or_turns true true = refl
or_turns true false = refl
or_turns false true = refl
or_turns false false = refl

or_last : (a b c : Bool) → (a || (b || c)) ≡ ((a || b) || c)
or_last true b c = refl
or_last false b c = refl

or_again : (a b : Bool) → ((a || b) || a) ≡ (a || b)
or_again true b = refl
or_again false true = refl
or_again false false = refl

any_by : (x k text : List ℕ) (xs : List (List ℕ)) (o : Ordering) → slice_cmp nat_cmp k x ≡ o
    → list_any (bytes_eq text) (insert_key (slice_cmp nat_cmp) xs k) ≡ (list_any (bytes_eq text) xs || bytes_eq text k)
    → list_any (bytes_eq text) (match_ordering o (k ∷ x ∷ xs) (x ∷ xs) (x ∷ insert_key (slice_cmp nat_cmp) xs k)) ≡ ((bytes_eq text x || list_any (bytes_eq text) xs) || bytes_eq text k)
any_by x k text xs Less is rest = or_turns (bytes_eq text k) (bytes_eq text x || list_any (bytes_eq text) xs)
any_by x k text xs Equal is rest =
    sym (or_again (bytes_eq text x) (list_any (bytes_eq text) xs)) ∙ ap (λ (y : List ℕ). (bytes_eq text x || list_any (bytes_eq text) xs) || bytes_eq text y) (sym (exact_bytes k x is))
any_by x k text xs Greater is rest =
    ap (λ (b : Bool). bytes_eq text x || b) rest ∙ or_last (bytes_eq text x) (list_any (bytes_eq text) xs) (bytes_eq text k)

-- the texts of a set that takes one more
any_inserted : (keys : List (List ℕ)) (k text : List ℕ) → list_any (bytes_eq text) (insert_key (slice_cmp nat_cmp) keys k) ≡ (list_any (bytes_eq text) keys || bytes_eq text k)
any_inserted [] k text = or_turns (bytes_eq text k) false
any_inserted (x ∷ xs) k text = any_by x k text xs (slice_cmp nat_cmp k x) refl (any_inserted xs k text)

any_behind : (texts : List (List ℕ)) (k text : List ℕ) → list_any (bytes_eq text) (texts ++ k ∷ []) ≡ (list_any (bytes_eq text) texts || bytes_eq text k)
any_behind [] k text = or_turns (bytes_eq text k) false
any_behind (t ∷ texts) k text =
    ap (λ (b : Bool). bytes_eq text t || b) (any_behind texts k text) ∙ or_last (bytes_eq text t) (list_any (bytes_eq text) texts) (bytes_eq text k)

-- one text more
pub are_of_more : (keys texts : List (List ℕ)) (k : List ℕ) → AreOf keys texts → AreOf (insert_key (slice_cmp nat_cmp) keys k) (texts ++ k ∷ [])
are_of_more keys texts k same text =
    any_inserted keys k text ∙ ap (λ (b : Bool). b || bytes_eq text k) (same text) ∙ sym (any_behind texts k text)

mass_by : (x k : List ℕ) (xs : List (List ℕ)) (o : Ordering) → mass (insert_key (slice_cmp nat_cmp) xs k) ≤ mass xs + suc (length k)
    → mass (match_ordering o (k ∷ x ∷ xs) (x ∷ xs) (x ∷ insert_key (slice_cmp nat_cmp) xs k)) ≤ suc (length x) + mass xs + suc (length k)
mass_by x k xs Less rest = omega arith
mass_by x k xs Equal rest = omega arith
mass_by x k xs Greater rest = omega (arith, rest)

-- a set of texts is no heavier than the texts
pub mass_inserted : (keys : List (List ℕ)) (k : List ℕ) → mass (insert_key (slice_cmp nat_cmp) keys k) ≤ mass keys + suc (length k)
mass_inserted [] k = omega arith
mass_inserted (x ∷ xs) k = mass_by x k xs (slice_cmp nat_cmp k x) (mass_inserted xs k)

pub mass_both : (xs ys : List (List ℕ)) → mass (xs ++ ys) ≡ mass xs + mass ys
mass_both [] ys = omega arith
mass_both (x ∷ xs) ys = omega (arith, mass_both xs ys)

pub mass_front : (xs : List (List ℕ)) (n : ℕ) → mass (take n xs) ≤ mass xs
mass_front [] zero = omega arith
mass_front [] (suc n) = omega arith
mass_front (x ∷ xs) zero = omega arith
mass_front (x ∷ xs) (suc n) = omega (arith, mass_front xs n)

count_light : (xs : List (List ℕ)) → length xs ≤ mass xs
count_light [] = omega arith
count_light (x ∷ xs) = omega (arith, count_light xs)

concat_light : (xs : List (List ℕ)) → length (concat xs) ≤ mass xs
concat_light [] = omega arith
concat_light (x ∷ xs) = omega (arith, concat_light xs, length-append x (concat xs))

each_light : (xs : List (List ℕ)) (k : ℕ) (d : List ℕ) → k < length xs → length (get_or xs k d) ≤ mass xs
each_light [] k d inside = absurd (omega arith)
each_light (x ∷ xs) zero d inside = omega arith
each_light (x ∷ xs) (suc k) d inside = omega (arith, each_light xs k d (omega arith))

-- light texts of bytes that ascend are strings that a section holds
pub are_strings : (xs : List (List ℕ)) → mass xs ≤ MOST_ITEMS → All AreBytes xs → IsAscending xs → AreStrings xs
are_strings xs light bytes up = record {
  few = omega (arith, light, count_light xs);
  bytes = bytes;
  short = λ k d inside. omega (arith, light, each_light xs k d inside);
  fits = omega (arith, light, concat_light xs);
  ascending = up;
}

-- one string copied
pub one_copied : (list after : List (List ℕ)) (s : Bor (List ℕ)) (before rest keys : List (Bor (List ℕ))) → after ≡ list ++ s.now ∷ [] → before ≡ s ∷ rest → list ++ spelled before ≡ spelled keys → after ++ spelled rest ≡ spelled keys
one_copied list after s before rest keys pushed taken so_far =
    ap (λ (xs : List (List ℕ)). xs ++ spelled rest) pushed ∙ append_assoc list (s.now ∷ []) (spelled rest) ∙ ap (λ (xs : List (Bor (List ℕ))). list ++ spelled xs) (sym taken) ∙ so_far

one_of_bytes : (s : List ℕ) → AreBytes s → All AreBytes (s ∷ [])
one_of_bytes s bytes zero d inside = bytes
one_of_bytes s bytes (suc k) d inside = absurd (omega arith)

-- one string of bytes more
pub bytes_more : (list after : List (List ℕ)) (s : List ℕ) → after ≡ list ++ s ∷ [] → All AreBytes list → AreBytes s → All AreBytes after
bytes_more list after s pushed all one =
    subst (λ (xs : List (List ℕ)). All AreBytes xs) (sym pushed) (All-append AreBytes list (s ∷ []) all (one_of_bytes s one))

-- one text taken into the set
pub text_more : (texts keys after : List (Bor (List ℕ))) (i : ℕ) (d : Bor (List ℕ)) → i < length texts → after ≡ insert_key lent_order keys (get_or texts i d)
    → AreOf (spelled keys) (spelled (take i texts)) → mass (spelled keys) ≤ mass (spelled (take i texts))
    → AreOf (spelled after) (spelled (take (i + 1) texts)) × (mass (spelled after) ≤ mass (spelled (take (i + 1) texts)))
text_more texts keys after i d inside taken same light =
    let k : Bor (List ℕ) = get_or texts i d in
    let more : spelled (take (i + 1) texts) ≡ spelled (take i texts) ++ k.now ∷ [] =
    ap spelled (take_more texts i d inside) ∙ map-append (λ (t : Bor (List ℕ)). t.now) (take i texts) (k ∷ []) in
    let now : spelled after ≡ insert_key (slice_cmp nat_cmp) (spelled keys) k.now = ap spelled taken ∙ spelled_inserted keys k in
    let grown = are_of_more (spelled keys) (spelled (take i texts)) k.now same in (
      rw (now, more) grown,
      omega (arith, light, ap mass now, ap mass more, mass_inserted (spelled keys) k.now, mass_both (spelled (take i texts)) (k.now ∷ [])),
    )

-- all texts are taken
pub all_taken : (texts : List (Bor (List ℕ))) (i : ℕ) → length texts ≤ i → spelled (take i texts) ≡ spelled texts
all_taken texts i past = ap spelled (take_all i texts past)
