-- Errors that are thrown.
use Rattle.std.proofs.Common.{◌≡◌, ℕ, List, codes, Ok, Err, refl}
use Rattle.snap_base.specs.declared.stop.Stop.TheVariants.{NotInProfile}
use Rattle.snap_graph.specs.declared.kind.Kind.TheVariants.{Error}
use Rattle.snap_graph.specs.declared.value.Value.{Value}
use Rattle.snap_graph.specs.declared.value.Value.TheVariants.{Node as At, Text}
use Rattle.snap_store.specs.declared.store.Store.{Ghosts}
use Rattle.spec_values.specs.Access.{throw_error}
use Rattle.spec_values.specs.Answer.{Heap, ◌>>=◌, give, stop, throw_value, use_key}
use Rattle.spec_values.specs.Operations.{make}
use Rattle.snap_action.specs.declared.fault.Abrupt.{Abrupt}
use Rattle.snap_action.specs.declared.fault.Abrupt.TheVariants.{Threw}
use Rattle.snap_action.specs.Errors.{error_with, put_named}
use Rattle.snap_action.specs.Gives.{Gives, Shows, as_held, as_is, standing}
use Rattle.snap_action.proofs.Follows.{alike, chained, cut, grouped, grows_then, thrown}
use Rattle.snap_action.proofs.Growing.{Goes, give_grows, put_grows, stop_grows, throw_grows, use_grows}

pub put_named_grows : (number : ℕ) (name : List ℕ) (value : Value) → Goes (put_named number name value)
put_named_grows number name value = grows_then (use_key name) _ (use_grows name) (λ used. put_grows number name value)

pub rest_grows : (message : List ℕ) (error : ℕ) → Goes (put_named error (codes "message") (Text message) >>= λ _. give (At error))
rest_grows message error = grows_then (put_named error (codes "message") (Text message)) _ (put_named_grows error (codes "message") (Text message)) (λ put. give_grows (At error))

-- an error that was made is thrown
throws_it : {A : Type 0} (prototype : ℕ) (message : List ℕ) (heap : Heap) → (error_with prototype message >>= throw_value {A = A}) heap ≡ throw_error prototype message heap
throws_it prototype message heap =
    grouped (make Error (At prototype) heap) _ throw_value _ (λ error h. grouped (put_named error (codes "message") (Text message) h) _ throw_value _ (λ put last. refl))

-- what is thrown does not tell what would have been answered
pub throws_alike : {A : Type 0} (prototype : ℕ) (message : List ℕ) (heap : Heap) → (throw_error {A = Unit} prototype message >>= λ done. stop {A = A} NotInProfile) heap ≡ throw_error prototype message heap
throws_alike {A} prototype message heap =
    grouped (make Error (At prototype) heap) _ (λ done. stop {A = A} NotInProfile) _ (λ error h. grouped (put_named error (codes "message") (Text message) h) _ (λ done. stop {A = A} NotInProfile) _ (λ put last. refl))

module _ {S H : Type 0} {store : Ghosts S H} {first last : S} where
  pub throws_made : ((a b c : S) → store.later a b → store.later b c → store.later a c) → ((a b : S) (text : List ℕ) → store.later a b → store.leaves_out b text ≡ store.leaves_out a text) → store.later last last
      → (prototype : ℕ) (message : List ℕ) (error : H) → Gives store first last (as_held store last) (Ok error) (error_with prototype message)
      → Gives {R = Unit {0}} store first last as_is (Err (Threw error)) (throw_error prototype message)
  throws_made later_still keeps_left_out itself prototype message error one =
      alike (error_with prototype message >>= throw_value) (throw_error prototype message) (λ keys. throws_it prototype message (standing (store.view first) keys))
      (chained later_still keeps_left_out (error_with prototype message) throw_value one (thrown (record { view = refl; later = itself }) error one.owned))

  pub throws_none : (prototype : ℕ) (message : List ℕ) (fault : Abrupt H) → Gives store first last (as_held store last) (Err fault) (error_with prototype message)
      → Gives {R = Unit {0}} store first last as_is (Err fault) (throw_error prototype message)
  throws_none prototype message fault one =
      alike (error_with prototype message >>= throw_value) (throw_error prototype message) (λ keys. throws_it prototype message (standing (store.view first) keys))
      (cut as_is fault (error_with prototype message) throw_value (λ value. throw_grows value) one)

  -- an error that is thrown in place of any answer
  pub threw : {R A : Type 0} {shows : Shows R A} (prototype : ℕ) (message : List ℕ) {fault : Abrupt H} → Gives {R = Unit {0}} store first last as_is (Err fault) (throw_error prototype message)
      → Gives store first last shows (Err fault) (throw_error prototype message)
  threw {A = A} {shows = shows} prototype message {fault = fault} one =
      alike (throw_error prototype message >>= λ done. stop {A = A} NotInProfile) (throw_error prototype message) (λ keys. throws_alike prototype message (standing (store.view first) keys))
      (cut shows fault (throw_error prototype message) (λ done. stop NotInProfile) (λ done. stop_grows NotInProfile) one)
