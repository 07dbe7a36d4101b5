-- Which actions go alike from states that match, whatever a state is and whatever its matching means.
use Rattle.std.specs.Prelude.{◌≡◌}
use Rattle.spec_values.specs.Answer.{Answer, Gave, Stopped, Threw}
use Rattle.spec_values.specs.State.{State}
use Rattle.laws_alike.specs.Alike.{Alike, Common, Grows, Values, World}

-- states match in a later world, in which P holds
pub record Later {T : Type 0} (M : Common T) (world : World) (one other : T) (P : World → Type 0) : Type 0 where
  pub after : World
  pub grows : Grows world after
  pub matching : M after one other
  pub result : P after

-- answers are alike: results with R in common, thrown values that agree, or stops for the same reason; and the states left match
abbrev pub Answers : {W T A : Type 0} → Common T → Common A → World → Answer W T A → Answer W T A → Type 0
Answers M R world (Gave result one) (Gave next other) = Later M world one other (λ after. R after result next)
Answers M R world (Gave result one) (Threw value other) = ⊥
Answers M R world (Gave result one) (Stopped why other) = ⊥
Answers M R world (Threw value one) (Gave result other) = ⊥
Answers M R world (Threw value one) (Threw next other) = Later M world one other (λ after. Values after value next)
Answers M R world (Threw value one) (Stopped why other) = ⊥
Answers M R world (Stopped why one) (Gave result other) = ⊥
Answers M R world (Stopped why one) (Threw value other) = ⊥
Answers M R world (Stopped why one) (Stopped reason other) = Later M world one other (λ after. why ≡ reason)

-- from any states that match, two actions end alike
pub record GoAlike {W T A : Type 0} (M : Common T) (R : Common A) (world : World) (x y : T → Answer W T A) : Type 0 where
  pub ends : (one other : T) → M world one other → Answers M R world (x one) (y other)

-- what is in common stays so in later worlds
pub record Stays {A : Type 0} (R : Common A) : Type 0 where
  pub later : (world after : World) → Grows world after → (one other : A) → R world one other → R after one other

-- states of evaluation match where their heaps do, and what else they hold has R in common
pub record StatesAlike {X : Type 0} (R : Common X) (world : World) (one other : State X) : Type 0 where
  pub heap : Alike world one.heap other.heap
  pub rest : R world one.rest other.rest
