-- A pass over bytes is a list of checks, made in order. Nothing behind a failed check is looked at.
use Rattle.std.specs.Prelude.{◌≡◌, ℕ, zero, suc, List, [], ◌∷◌, ◌++◌, ◌⊎◌, Result, MatchResult}
use Rattle.spec_format.specs.declared.fault.BlobKind.{BlobKind}
use Rattle.spec_format.specs.declared.fault.BlobFault.{BlobFault}

-- a fact that has to hold, and the fault where it does not
pub record Check : Type 1 where
  pub fact : Type 0
  pub fault : BlobFault

abbrev pub check : Type 0 → BlobKind → ℕ → Check
check fact kind at = record { fact = fact; fault = record { kind = kind; at = at } }

-- every check holds
abbrev pub AllHold : List Check → Type 0
AllHold [] = Unit {0}
AllHold (c ∷ cs) = c.fact × AllHold cs

-- the fault is that of the first check that fails: each one before it holds
abbrev pub FirstFault : List Check → BlobFault → Type 0
FirstFault [] f = ⊥
FirstFault (c ∷ cs) f = ((c.fact → ⊥) × (f ≡ c.fault)) ⊎ (c.fact × FirstFault cs f)

-- a reader gave a value where every check holds, and the first fault elsewhere
abbrev pub Passes : {X : Type 0} → List Check → Result X BlobFault → Type 0
Passes checks result = MatchResult result (λ _. AllHold checks) (FirstFault checks)

-- the checks of 0, of 1, and so on, for each number below the count
abbrev pub each : ℕ → (ℕ → List Check) → List Check
each zero checks = []
each (suc n) checks = each n checks ++ checks n
