-- A plan of the calls that fail.
use Rattle.std.specs.Prelude.{◌≡◌, ℕ, ◌+◌, ◌-◌, ◌^◌, min, List, Contains}
use Rattle.snap_io.specs.declared.plan.FaultPlan.{FaultPlan}

-- the number of the next call
abbrev pub next_call : FaultPlan → ℕ
next_call plan = plan.calls

-- the numbers of the calls that are to fail
abbrev pub failing_calls : FaultPlan → List ℕ
failing_calls plan = plan.fails.items

-- the next call is to fail
abbrev pub IsListed : FaultPlan → Type 0
IsListed plan = Contains (failing_calls plan) (next_call plan)

-- one call further, up to the last number; the calls that are to fail stay
pub record CountsCall (before after : FaultPlan) : Type 0 where
  pub call : next_call after ≡ min (next_call before + 1) (2 ^ 32 - 1)
  pub fails : failing_calls after ≡ failing_calls before
