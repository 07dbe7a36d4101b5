-- Texts that are joined, and held again.
use Rattle.std.proofs.Common.{◌≡◌, ℕ, ◌-◌, Bool, List, ◌++◌, length, take, drop, Some, Result, Ok, Err, ap, if◌then◌else◌, arith}
use Rattle.std.specs.Option.{option_map}
use Rattle.std.specs.Result.{IsErrAnd}
use Rattle.std.proofs.lemmas.List.{take_all}
use Rattle.snap_arena.specs.Texts.{is_too_long}
use Rattle.snap_base.specs.declared.stop.Stop.TheVariants as stop
use Rattle.snap_graph.specs.declared.value.Value.{Value}
use Rattle.snap_graph.specs.declared.value.Value.TheVariants as value
use Rattle.snap_store.specs.Calls.{EndsWhere, text_units, units_in}
use Rattle.snap_store.specs.declared.fault.StoreFault.{StoreFault}
use Rattle.snap_store.specs.declared.fault.StoreFault.TheVariants.{TooManyNodes, TooLong, NoMemory}
use Rattle.snap_store.specs.declared.store.Store.{Ghosts}
use Rattle.spec_values.specs.Access.{or_stop}
use Rattle.spec_values.specs.Operators.{joined}
use Rattle.snap_action.specs.declared.fault.Abrupt.{Abrupt}
use Rattle.snap_action.specs.Gives.{Gives, abrupt_of, as_held, standing}
use Rattle.snap_action.proofs.Called.{refused}
use Rattle.snap_action.proofs.Follows.{Unmoved, unmet}
use Rattle.snap_action.proofs.Growing.{or_stop_grows}

module _ {S H : Type 0} {store : Ghosts S H} {first last : S} where
  pub join_refused : (left right : List ℕ) (why : StoreFault) → EndsWhere {A = H} (is_too_long left right) (Err why) → Unmoved store first last
      → (result : Result H (Abrupt H)) → IsErrAnd result (λ fault. fault ≡ abrupt_of why) → Gives store first last (as_held store last) result (or_stop (joined left right))
  join_refused left right TooManyNodes e h result is = absurd e
  join_refused left right TooLong long h result is =
      refused (or_stop (joined left right)) stop.TooLong h
      (λ keys. ap (λ (b : Bool). or_stop (if b then Err stop.TooLong else Ok (value.Text (left ++ right))) (standing (store.view first) keys)) long) result is
  join_refused left right NoMemory e h result is = unmet h (or_stop_grows (joined left right)) result is

-- the part that is a whole text
pub whole_text : (v : Value) (n : ℕ) → option_map length (text_units v) ≡ Some n → value.Text (take (n - 0) (drop 0 (units_in v))) ≡ v
whole_text value.Undefined n e = absurd cc
whole_text value.Null n e = absurd cc
whole_text (value.Bool b) n e = absurd cc
whole_text (value.Int z) n e = absurd cc
whole_text (value.Text text) n e = let same : length text ≡ n = cc in ap value.Text (grind (arith, take_all))
whole_text (value.Node node) n e = absurd cc
whole_text value.Empty n e = absurd cc
