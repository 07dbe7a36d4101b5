-- A list of contexts, in which those of some children are set one after another.
use Rattle.std.proofs.Common.{◌≡◌, ◌⊎◌, inl, inr, ℕ, zero, suc, ◌+◌, ◌<◌, List, [], ◌∷◌, ◌++◌, length, get_or, set, take, refl, sym, subst, ap, ◌∙◌, arith}
use Rattle.std.specs.Prelude.{slice_get, Some}
use Rattle.std.proofs.lemmas.Bool.{cases_eq}
use Rattle.std.proofs.lemmas.List.{take_more}
use Rattle.snap_ast.specs.Words.{Each}
use Rattle.spec_scopes.specs.Round.{IsAmong}

pub set_here : {A : Type 0} → (xs : List A) (i : ℕ) (x : A) → i < length xs → slice_get (set xs i x) i ≡ Some x
set_here [] i x below = absurd (omega arith)
set_here (y ∷ ys) zero x below = refl
set_here (y ∷ ys) (suc i) x below = set_here ys i x (omega arith)

pub set_there : {A : Type 0} → (xs : List A) (i j : ℕ) (x : A) → (j ≡ i → ⊥) → slice_get (set xs i x) j ≡ slice_get xs j
set_there [] i j x apart = refl
set_there (y ∷ ys) zero zero x apart = absurd (apart refl)
set_there (y ∷ ys) zero (suc j) x apart = refl
set_there (y ∷ ys) (suc i) zero x apart = refl
set_there (y ∷ ys) (suc i) (suc j) x apart = set_there ys i j x (λ same. apart (ap suc same))

among_push : (xs : List ℕ) (x n : ℕ) → IsAmong (xs ++ x ∷ []) n → IsAmong xs n ⊎ (n ≡ x)
among_push [] x n (zero, e) = inr cc
among_push [] x n (suc i, e) = absurd cc
among_push (y ∷ ys) x n (zero, e) = inl (zero, e)
among_push (y ∷ ys) x n (suc i, e) =
    elim (among_push ys x n (i, e)) as (λ _. IsAmong (y ∷ ys) n ⊎ (n ≡ x)) [
      | inl among ↦ inl (suc among.0, among.1)
      | inr last ↦ inr last
    ]

among_front : (xs : List ℕ) (x n : ℕ) → IsAmong xs n → IsAmong (xs ++ x ∷ []) n
among_front [] x n (i, e) = absurd cc
among_front (y ∷ ys) x n (zero, e) = (zero, e)
among_front (y ∷ ys) x n (suc i, e) = let more : IsAmong (ys ++ x ∷ []) n = among_front ys x n (i, e) in (suc more.0, more.1)

among_end : (xs : List ℕ) (x : ℕ) → IsAmong (xs ++ x ∷ []) x
among_end [] x = (zero, refl)
among_end (y ∷ ys) x = let more : IsAmong (ys ++ x ∷ []) x = among_end ys x in (suc more.0, more.1)

each_here : (P : ℕ → Type 0) (xs : List ℕ) (i d : ℕ) → Each P xs → i < length xs → P (get_or xs i d)
each_here P [] i d each below = absurd (omega arith)
each_here P (x ∷ xs) zero d each below = each.0
each_here P (x ∷ xs) (suc i) d each below = each_here P xs i d each.1 (omega arith)

module _ {A : Type 0} (children : List ℕ) (i : ℕ) (below : i < length children) (start now : List A) (of : ℕ → A) (in_table : Each (λ child. child < length start) children) (long : length now ≡ length start) where
  one_more : take (i + 1) children ≡ take i children ++ get_or children i 0 ∷ []
  one_more = take_more children i 0 below

  within : get_or children i 0 < length now
  within = let h : get_or children i 0 < length start = each_here (λ child. child < length start) children i 0 in_table below in omega (arith, long)

  pub children_more : ((child : ℕ) → IsAmong (take i children) child → slice_get now child ≡ Some (of child)) → (child : ℕ) → IsAmong (take (i + 1) children) child → slice_get (set now (get_or children i 0) (of (get_or children i 0))) child ≡ Some (of child)
  children_more before child among =
      elim (cases_eq child (get_or children i 0)) as (λ _. slice_get (set now (get_or children i 0) (of (get_or children i 0))) child ≡ Some (of child)) [
        | inl same ↦ subst (λ (n : ℕ). slice_get (set now (get_or children i 0) (of (get_or children i 0))) n ≡ Some (of n)) (sym same) (set_here now (get_or children i 0) (of (get_or children i 0)) within)
        | inr apart ↦ set_there now (get_or children i 0) child (of (get_or children i 0)) apart
            ∙ elim (among_push (take i children) (get_or children i 0) child (subst (λ (xs : List ℕ). IsAmong xs child) one_more among)) as (λ _. slice_get now child ≡ Some (of child)) [
              | inl already ↦ before child already
              | inr last ↦ absurd (apart last)
            ]
      ]

  pub others_more : ((other : ℕ) → (IsAmong (take i children) other → ⊥) → slice_get now other ≡ slice_get start other) → (other : ℕ) → (IsAmong (take (i + 1) children) other → ⊥) → slice_get (set now (get_or children i 0) (of (get_or children i 0))) other ≡ slice_get start other
  others_more before other apart =
      set_there now (get_or children i 0) other (of (get_or children i 0)) (λ same. apart (subst (λ (xs : List ℕ). IsAmong xs other) (sym one_more) (subst (λ (n : ℕ). IsAmong (take i children ++ get_or children i 0 ∷ []) n) (sym same) (among_end (take i children) (get_or children i 0)))))
      ∙ before other (λ among. apart (subst (λ (xs : List ℕ). IsAmong xs other) (sym one_more) (among_front (take i children) (get_or children i 0) other among)))
