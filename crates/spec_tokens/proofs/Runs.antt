-- Runs of bytes of a class.
use Rattle.std.proofs.Common.{◌≡◌, ℕ, suc, ◌≤◌, Bool, true, false, List, [], ◌∷◌, ◌++◌, length, take, drop, refl, arith, ⊎_elim}
use Rattle.std.specs.List.{prefix_len}
use Rattle.std.proofs.lemmas.Bool.{cases_Bool}
use Rattle.spec_tokens.specs.Shape.{AllAre, Stops}

-- a run ends where the class ends
pub prefix_len-run : (p : ℕ → Bool) (text rest : List ℕ) → AllAre p text → Stops p rest → prefix_len p (text ++ rest) ≡ length text
prefix_len-run p [] [] all stops = refl
prefix_len-run p [] (b ∷ rest) all stops = rw stops refl
prefix_len-run p (b ∷ text) rest all stops = rw (all.0, prefix_len-run p text rest all.1 stops) (omega arith)

-- the bytes of a run are of the class
pub prefix_len-all : (p : ℕ → Bool) (bytes : List ℕ) → AllAre p (take (prefix_len p bytes) bytes)
prefix_len-all p [] = tt
prefix_len-all p (b ∷ bytes) =
    ⊎_elim
    (λ (yes : p b ≡ true). let longer : prefix_len p (b ∷ bytes) ≡ suc (prefix_len p bytes) = rw yes (omega arith) in rw longer (yes, prefix_len-all p bytes))
    (λ (no : p b ≡ false). let none : prefix_len p (b ∷ bytes) ≡ 0 = rw no refl in rw none tt)
    (cases_Bool (p b))

-- behind a run the class ends
pub prefix_len-stops : (p : ℕ → Bool) (bytes : List ℕ) → Stops p (drop (prefix_len p bytes) bytes)
prefix_len-stops p [] = tt
prefix_len-stops p (b ∷ bytes) =
    ⊎_elim
    (λ (yes : p b ≡ true). let longer : prefix_len p (b ∷ bytes) ≡ suc (prefix_len p bytes) = rw yes (omega arith) in rw longer (prefix_len-stops p bytes))
    (λ (no : p b ≡ false). let none : prefix_len p (b ∷ bytes) ≡ 0 = rw no refl in rw none no)
    (cases_Bool (p b))

-- a run goes at least as far as its bytes
pub prefix_len-least : (p : ℕ → Bool) (text rest : List ℕ) → AllAre p text → length text ≤ prefix_len p (text ++ rest)
prefix_len-least p [] rest all = omega arith
prefix_len-least p (b ∷ text) rest all = rw all.0 (omega (arith, prefix_len-least p text rest all.1))
