-- What holds of a list of checks, whichever they are.
use Rattle.std.proofs.Common.{◌≡◌, ℕ, zero, suc, ◌+◌, ◌<◌, add-one, List, [], ◌∷◌, ◌++◌, inl, inr, sym, subst, ◌∙◌, arith}
use Rattle.std.proofs.lemmas.Bool.{cases_lt}
use Rattle.spec_format.specs.declared.fault.BlobFault.{BlobFault}
use Rattle.spec_format.specs.Check.{Check, AllHold, FirstFault, each}

-- a list of checks has one first fault at most
pub one_fault : (checks : List Check) (f g : BlobFault) → FirstFault checks f → FirstFault checks g → f ≡ g
one_fault [] f g p q = absurd p
one_fault (c ∷ cs) f g (inl p) (inl q) = p.1 ∙ sym q.1
one_fault (c ∷ cs) f g (inl p) (inr q) = absurd (p.0 q.0)
one_fault (c ∷ cs) f g (inr p) (inl q) = absurd (q.0 p.0)
one_fault (c ∷ cs) f g (inr p) (inr q) = one_fault cs f g p.1 q.1

-- where every check holds there is no fault
pub no_fault : (checks : List Check) (f : BlobFault) → AllHold checks → FirstFault checks f → ⊥
no_fault [] f h p = p
no_fault (c ∷ cs) f h (inl p) = p.0 h.0
no_fault (c ∷ cs) f h (inr p) = no_fault cs f h.1 p.1

-- the checks of two lists hold together
pub AllHold-append : (xs ys : List Check) → AllHold xs → AllHold ys → AllHold (xs ++ ys)
AllHold-append [] ys h k = k
AllHold-append (x ∷ xs) ys h k = (h.0, AllHold-append xs ys h.1 k)

-- the first of two lists of checks
pub AllHold-left : (xs ys : List Check) → AllHold (xs ++ ys) → AllHold xs
AllHold-left [] ys h = tt
AllHold-left (x ∷ xs) ys h = (h.0, AllHold-left xs ys h.1)

-- the second of two lists of checks
pub AllHold-right : (xs ys : List Check) → AllHold (xs ++ ys) → AllHold ys
AllHold-right [] ys h = h
AllHold-right (x ∷ xs) ys h = AllHold-right xs ys h.1

-- the checks of each number below the count hold together
pub each_from : (n : ℕ) (checks : ℕ → List Check) → ((k : ℕ) → k < n → AllHold (checks k)) → AllHold (each n checks)
each_from zero checks h = tt
each_from (suc n) checks h =
    AllHold-append (each n checks) (checks n) (each_from n checks (λ k lt. h k (omega arith))) (h n (omega arith))

-- the checks of one number below the count
pub each_at : (n : ℕ) (checks : ℕ → List Check) (k : ℕ) → k < n → AllHold (each n checks) → AllHold (checks k)
each_at zero checks k lt h = absurd (omega arith)
each_at (suc n) checks k lt h =
    elim (cases_lt k n) [
      | inl below ↦ each_at n checks k below (AllHold-left (each n checks) (checks n) h)
      | inr le ↦ let e : n ≡ k = omega arith in
          let P : ℕ → Type 0 = λ i. AllHold (checks i) in subst P e (AllHold-right (each n checks) (checks n) h)
    ]

-- a fault of the first of two lists is one of both
pub FirstFault-left : (xs ys : List Check) (f : BlobFault) → FirstFault xs f → FirstFault (xs ++ ys) f
FirstFault-left [] ys f h = absurd h
FirstFault-left (x ∷ xs) ys f (inl h) = inl h
FirstFault-left (x ∷ xs) ys f (inr h) = inr (h.0, FirstFault-left xs ys f h.1)

-- where the first of two lists holds, a fault of the second is one of both
pub FirstFault-right : (xs ys : List Check) (f : BlobFault) → AllHold xs → FirstFault ys f → FirstFault (xs ++ ys) f
FirstFault-right [] ys f p h = h
FirstFault-right (x ∷ xs) ys f p h = inr (p.0, FirstFault-right xs ys f p.1 h)

-- the checks of one number more
pub each_more : (checks : ℕ → List Check) (n : ℕ) → AllHold (each n checks) → AllHold (checks n) → AllHold (each (n + 1) checks)
each_more checks n p q = rw add-one (AllHold-append (each n checks) (checks n) p q)

-- the first fault of the checks of one number, where those of each number below it hold
pub each_fault : (checks : ℕ → List Check) (n i : ℕ) (f : BlobFault) → i < n → AllHold (each i checks) → FirstFault (checks i) f → FirstFault (each n checks) f
each_fault checks zero i f lt p h = absurd (omega arith)
each_fault checks (suc n) i f lt p h =
    elim (cases_lt i n) [
      | inl below ↦ FirstFault-left (each n checks) (checks n) f (each_fault checks n i f below p h)
      | inr le ↦ let e : i ≡ n = omega arith in
          let P : ℕ → Type 0 = λ k. FirstFault (each (suc k) checks) f in subst P e (FirstFault-right (each i checks) (checks i) f p h)
    ]
