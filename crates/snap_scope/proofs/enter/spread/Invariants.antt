use Rattle.std.proofs.Common.{◌≡◌, ℕ, length, take}
use Rattle.std.specs.Prelude.{slice_get, Some}
use Rattle.snap_scope.proofs.enter.spread.Given as goal
use Rattle.snap_scope.specs.Visit.{child_context}
use Rattle.spec_scopes.specs.Round.{IsAmong}

-- the children so far have what they have from their parent, and the others what they had
abbrev pub invariant-loop-child : goal.invariant-loop-child
invariant-loop-child l = record {
  long : length l.contexts.items ≡ length l.initial.contexts.items;
  children : (child : ℕ) → IsAmong (take l.child-index l.children) child → slice_get l.contexts.items child ≡ Some (child_context l.form l.context l.own child);
  others : (other : ℕ) → (IsAmong (take l.child-index l.children) other → ⊥) → slice_get l.contexts.items other ≡ slice_get l.initial.contexts.items other;
}
