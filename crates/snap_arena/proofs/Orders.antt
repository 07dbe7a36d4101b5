-- Lists compared from a place on.
use Rattle.std.proofs.Common.{◌≡◌, ℕ, ◌+◌, ◌<◌, ◌≤◌, true, ◌&&◌, List, [], ◌∷◌, length, drop, get_or, ◌∙◌, nat_eq}
use Rattle.std.specs.Str.{bytes_eq as text_eq}
use Rattle.std.specs.declared.cmp.Ordering.TheVariants.{Less, Equal, Greater}
use Rattle.std.specs.Ordering.{nat_cmp, ordering_then}
use Rattle.std.specs.Cmp.Lexicographic.{slice_cmp}
use Rattle.std.proofs.lemmas.List.{at_drop_all, at_drop_more}

-- two lists from places at which both go on
pub ordered_from : (xs ys : List ℕ) (i : ℕ) → i < length xs → i < length ys → slice_cmp nat_cmp (drop i xs) (drop i ys) ≡ ordering_then (nat_cmp (get_or xs i 0) (get_or ys i 0)) (slice_cmp nat_cmp (drop (i + 1) xs) (drop (i + 1) ys))
ordered_from xs ys i one other = at_drop_more (λ rest. slice_cmp nat_cmp rest (drop i ys)) xs i 0 one ∙ at_drop_more (λ rest. slice_cmp nat_cmp (get_or xs i 0 ∷ drop (i + 1) xs) rest) ys i 0 other

-- the second list ends first
pub ordered_past : (xs ys : List ℕ) (i : ℕ) → i < length xs → length ys ≤ i → slice_cmp nat_cmp (drop i xs) (drop i ys) ≡ Greater
ordered_past xs ys i one other = at_drop_more (λ rest. slice_cmp nat_cmp rest (drop i ys)) xs i 0 one ∙ at_drop_all (λ rest. slice_cmp nat_cmp (get_or xs i 0 ∷ drop (i + 1) xs) rest) ys i other

-- the first list ends first
pub ordered_before : (xs ys : List ℕ) (i : ℕ) → length xs ≤ i → i < length ys → slice_cmp nat_cmp (drop i xs) (drop i ys) ≡ Less
ordered_before xs ys i one other = at_drop_all (λ rest. slice_cmp nat_cmp rest (drop i ys)) xs i one ∙ at_drop_more (λ rest. slice_cmp nat_cmp [] rest) ys i 0 other

-- both lists end
pub ordered_ends : (xs ys : List ℕ) (i : ℕ) → length xs ≤ i → length ys ≤ i → slice_cmp nat_cmp (drop i xs) (drop i ys) ≡ Equal
ordered_ends xs ys i one other = at_drop_all (λ rest. slice_cmp nat_cmp rest (drop i ys)) xs i one ∙ at_drop_all (λ rest. slice_cmp nat_cmp [] rest) ys i other

-- two lists from places at which both go on, compared for sameness
pub same_from : (xs ys : List ℕ) (i : ℕ) → i < length xs → i < length ys → text_eq (drop i xs) (drop i ys) ≡ (nat_eq (get_or xs i 0) (get_or ys i 0) && text_eq (drop (i + 1) xs) (drop (i + 1) ys))
same_from xs ys i one other = at_drop_more (λ rest. text_eq rest (drop i ys)) xs i 0 one ∙ at_drop_more (λ rest. text_eq (get_or xs i 0 ∷ drop (i + 1) xs) rest) ys i 0 other

-- lists that both ended are the same
pub same_ends : (xs ys : List ℕ) (i : ℕ) → length xs ≤ i → length ys ≤ i → text_eq (drop i xs) (drop i ys) ≡ true
same_ends xs ys i one other = at_drop_all (λ rest. text_eq rest (drop i ys)) xs i one ∙ at_drop_all (λ rest. text_eq [] rest) ys i other
