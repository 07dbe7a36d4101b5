-- Nodes of which one is changed.
use Rattle.std.proofs.Common.{◌≡◌, ◌≢◌, ℕ, zero, suc, ◌≤◌, List, [], ◌∷◌, length, take, get_or, slice_get, Some, All, refl, ap, arith}
use Rattle.std.specs.Option.{option_map}
use Rattle.std.proofs.lemmas.Option.{slice_get-get_or}
use Rattle.snap_graph.specs.declared.node.Node.{Node}
use Rattle.spec_values.specs.Operations.{changed}

pub length-changed : (change : Node → Node) (nodes : List Node) (number : ℕ) → length (changed change nodes number) ≡ length nodes
length-changed change [] number = refl
length-changed change (node ∷ rest) zero = refl
length-changed change (node ∷ rest) (suc number) = omega (arith, length-changed change rest number)

pub changed_here : (change : Node → Node) (nodes : List Node) (number : ℕ) → slice_get (changed change nodes number) number ≡ option_map change (slice_get nodes number)
changed_here change [] number = refl
changed_here change (node ∷ rest) zero = refl
changed_here change (node ∷ rest) (suc number) = changed_here change rest number

pub changed_elsewhere : (change : Node → Node) (nodes : List Node) (number other : ℕ) → other ≢ number → slice_get (changed change nodes number) other ≡ slice_get nodes other
changed_elsewhere change [] number other apart = refl
changed_elsewhere change (node ∷ rest) zero zero apart = absurd (apart refl)
changed_elsewhere change (node ∷ rest) zero (suc other) apart = refl
changed_elsewhere change (node ∷ rest) (suc number) zero apart = refl
changed_elsewhere change (node ∷ rest) (suc number) (suc other) apart = changed_elsewhere change rest number other (λ e. apart (omega arith))

-- the nodes in front of a changed one stay
pub take-changed : (change : Node → Node) (nodes : List Node) (number count : ℕ) → count ≤ number → take count (changed change nodes number) ≡ take count nodes
take-changed change [] number count h = refl
take-changed change (node ∷ rest) number zero h = refl
take-changed change (node ∷ rest) zero (suc count) h = absurd (omega arith)
take-changed change (node ∷ rest) (suc number) (suc count) h = ap (λ (xs : List Node). node ∷ xs) (take-changed change rest number count (omega arith))

-- a change that leaves the node as it is changes nothing
pub changed_same : (change : Node → Node) (nodes : List Node) (number : ℕ) → ((node : Node) → slice_get nodes number ≡ Some node → change node ≡ node) → changed change nodes number ≡ nodes
changed_same change [] number h = refl
changed_same change (node ∷ rest) zero h = ap (λ (n : Node). n ∷ rest) (h node refl)
changed_same change (node ∷ rest) (suc number) h = ap (λ (xs : List Node). node ∷ xs) (changed_same change rest number h)

-- what holds of each node that is read holds of all
pub all_read : (P : Node → Type 0) (nodes : List Node) → ((number : ℕ) (node : Node) → slice_get nodes number ≡ Some node → P node) → All P nodes
all_read P nodes h k d within = h k (get_or nodes k d) (slice_get-get_or nodes k d within)
