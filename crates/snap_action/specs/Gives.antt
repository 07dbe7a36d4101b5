-- What comes of a call over a store, as the action that it is on the state that the store stands for.
use Rattle.std.specs.Prelude.{◌≡◌, ◌<◌, ℕ, Bool, List, [], ◌∷◌, ◌++◌, length, Option, None, Some, Result, Ok, Err}
use Rattle.snap_base.specs.declared.stop.Stop.{Stop}
use Rattle.snap_base.specs.declared.stop.Stop.TheVariants as stop
use Rattle.snap_graph.specs.declared.value.Value.{Value}
use Rattle.snap_store.specs.declared.fault.StoreFault.{StoreFault}
use Rattle.snap_store.specs.declared.fault.StoreFault.TheVariants as fault
use Rattle.snap_store.specs.declared.store.Store.{Ghosts}
use Rattle.snap_store.specs.View.{View}
use Rattle.snap_text.specs.declared.key.Key.{Key}
use Rattle.snap_text.specs.Keys.{logged}
use Rattle.spec_values.specs.Answer.{Action, Answer, Gave, Heap, Stopped as StoppedAt, Threw as ThrewAt}
use Rattle.spec_values.specs.State.{Precedes, Progress, State, StopAt, heap_progress, left_by, state, state_progress}
use Rattle.snap_action.specs.declared.fault.Abrupt.{Abrupt}
use Rattle.snap_action.specs.declared.fault.Abrupt.TheVariants as abrupt

-- what a store's refusal is to an action
abbrev pub abrupt_of : {H : Type 0} → StoreFault → Abrupt H
abrupt_of fault.TooManyNodes = abrupt.Stopped stop.TooManyNodes
abrupt_of fault.TooLong = abrupt.Stopped stop.TooLong
abrupt_of fault.NoMemory = abrupt.NoMemory

-- why a call has no result: a value was thrown, evaluation stops for a reason of type W, or memory ran out
pub data Cut (W H : Type 0) : Type 0 where
  Threw : H → Cut W H
  Stopped : W → Cut W H
  OutOfMemory : Cut W H

abbrev pub cut_of : {H : Type 0} → Abrupt H → Cut Stop H
cut_of (abrupt.Threw held) = Threw held
cut_of (abrupt.Stopped why) = Stopped why
cut_of abrupt.NoMemory = OutOfMemory

-- how what a call answers is seen as the result of an action, and that it is the store's own
pub record Shows (R A : Type 0) : Type 1 where
  pub view : R → A
  pub owned : R → Type 0

-- a result that is what it is, a held value as what it stands for, and either where there may be none
abbrev pub as_is : {A : Type 0} → Shows A A
as_is = record { view = λ result. result; owned = λ result. Unit {0} }

abbrev pub as_held : {S H : Type 0} → Ghosts S H → S → Shows H Value
as_held store now = record { view = store.meaning now; owned = store.owns now }

abbrev pub view_some : {R A : Type 0} → (R → A) → Option R → Option A
view_some view None = None
view_some view (Some result) = Some (view result)

abbrev pub owned_some : {R : Type 0} → (R → Type 0) → Option R → Type 0
owned_some owned None = Unit {0}
owned_some owned (Some result) = owned result

abbrev pub as_some : {R A : Type 0} → Shows R A → Shows (Option R) (Option A)
as_some shows = record { view = view_some shows.view; owned = owned_some shows.owned }

-- the heap that a store stands for, where these keys were used
abbrev pub standing : View → List (List ℕ) → Heap
standing view keys = record { nodes = view.nodes; private_nodes = view.private_nodes; keys = keys }

-- a log after more texts were asked for
abbrev pub told : (List ℕ → Bool) → List (List ℕ) → Option (List (List ℕ)) → Option (List (List ℕ))
told leaves_out [] log = log
told leaves_out (text ∷ rest) log = told leaves_out rest (logged leaves_out text log)

-- how an action ended that a call did, and in which state. Where memory ran out the action goes on from there: the keys and the bytes
-- printed are the first of those in the end, and no more nodes are private.
abbrev pub EndsBy : {W H T A : Type 0} → (T → Progress) → (H → Value) → T → Cut W H → Answer W T A → Type 0
EndsBy progress meaning state (Threw held) answer = answer ≡ ThrewAt (meaning held) state
EndsBy progress meaning state (Stopped why) answer = answer ≡ StoppedAt why state
EndsBy progress meaning state OutOfMemory answer = Precedes (progress state) (progress (left_by answer))

abbrev pub Ends : {W H T R E A : Type 0} → (E → Cut W H) → (T → Progress) → (H → Value) → (R → A) → T → Result R E → Answer W T A → Type 0
Ends cut_of progress meaning view state (Ok result) answer = answer ≡ Gave (view result) state
Ends cut_of progress meaning view state (Err fault) answer = EndsBy progress meaning state (cut_of fault) answer

-- what is answered or thrown is the store's own
abbrev pub OwnsCut : {W H : Type 0} → (H → Type 0) → Cut W H → Type 0
OwnsCut owns (Threw held) = owns held
OwnsCut owns (Stopped why) = Unit {0}
OwnsCut owns OutOfMemory = Unit {0}

abbrev pub Owns : {W H R E : Type 0} → (E → Cut W H) → (H → Type 0) → (R → Type 0) → Result R E → Type 0
Owns cut_of owns owned (Ok result) = owned result
Owns cut_of owns owned (Err fault) = OwnsCut owns (cut_of fault)

-- these keys were used meanwhile, and the log that the store tells has grown by them; and so the action ended
pub record Comes {W H T R E A : Type 0} (cut_of : E → Cut W H) (progress : T → Progress) (meaning : H → Value) (view : R → A) (leaves_out : List ℕ → Bool)
    (before after : Option (List (List ℕ))) (to : List (List ℕ) → T) (keys : List (List ℕ)) (result : Result R E) (answer : Answer W T A) : Type 0 where
  pub used : List (List ℕ)
  pub log : after ≡ told leaves_out used before
  pub ends : Ends cut_of progress meaning view (to (keys ++ used)) result answer

-- A call over a store, which made `after` of `before`, does an action on states of type T: on the state `from` that the store stood for
-- it comes to what was answered, and leaves the state `to` that the store stands for now, whatever keys were used before. What is answered
-- or thrown is the store's own.
pub record Does {S H W T R E A : Type 0} (store : Ghosts S H) (cut_of : E → Cut W H) (progress : T → Progress) (from to : List (List ℕ) → T) (before after : S)
    (shows : Shows R A) (result : Result R E) (action : T → Answer W T A) : Type 0 where
  pub comes : (keys : List (List ℕ)) → Comes cut_of progress (store.meaning after) shows.view (store.leaves_out before) (store.view before).log (store.view after).log to keys result (action (from keys))
  pub owned : Owns cut_of (store.owns after) shows.owned result
  pub later : store.later before after

-- an action on the heap that the store stands for
abbrev pub Gives : {S H R A : Type 0} → Ghosts S H → S → S → Shows R A → Result R (Abrupt H) → Action A → Type 0
Gives store before after shows result action = Does store cut_of heap_progress (standing (store.view before)) (standing (store.view after)) before after shows result action

-- an action on a state that has more than a heap, of which these bytes were printed
abbrev pub GivesMore : {S H X R E A : Type 0} → Ghosts S H → (E → Cut StopAt H) → (X → List ℕ) → S → S → X → X → Shows R A → Result R E → (State X → Answer StopAt (State X) A) → Type 0
GivesMore store cut_of printed before after rest more shows result action =
    Does store cut_of (state_progress printed) (λ keys. state (standing (store.view before) keys) rest) (λ keys. state (standing (store.view after) keys) more) before after shows result action

-- a cut-off at a place of a source
abbrev pub cut_at : {H : Type 0} → ℕ → Cut Stop H → Cut StopAt H
cut_at place (Threw held) = Threw held
cut_at place (Stopped why) = Stopped (record { why = why; at = place })
cut_at place OutOfMemory = OutOfMemory

abbrev pub result_at : {H R : Type 0} → ℕ → Result R (Abrupt H) → Result R (Cut StopAt H)
result_at place (Ok result) = Ok result
result_at place (Err fault) = Err (cut_at place (cut_of fault))

-- a reason that is as it is
abbrev pub same_cut : {W H : Type 0} → Cut W H → Cut W H
same_cut cut = cut

-- a key of a text, and the number of a node
abbrev pub as_key : {S H : Type 0} → Ghosts S H → S → List ℕ → Shows Key (Unit {0})
as_key store now text = record { view = λ key. tt; owned = λ key. store.key_of now text ≡ Some key }

abbrev pub as_node : {S H : Type 0} → Ghosts S H → S → Shows ℕ ℕ
as_node store now = record { view = λ number. number; owned = λ number. number < length (store.view now).nodes }
