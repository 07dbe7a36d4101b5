-- An action on a heap, on a state that has more.
use Rattle.std.proofs.Common.{◌≡◌, ℕ, List, [], ◌++◌, Result, Ok, Err, refl, sym, ap, subst}
use Rattle.snap_base.specs.declared.stop.Stop.{Stop}
use Rattle.snap_graph.specs.declared.value.Value.{Value}
use Rattle.snap_store.specs.declared.store.Store.{Ghosts}
use Rattle.spec_values.specs.Answer.{Action, Gave, Heap, HeapAnswer, Stopped as StoppedAt, Threw as ThrewAt}
use Rattle.spec_values.specs.State.{Precedes, State, heap_progress, left_by, lift, placed, state, state_progress}
use Rattle.snap_action.specs.declared.fault.Abrupt.{Abrupt}
use Rattle.snap_action.specs.Gives.{Cut, EndsBy, Gives, GivesMore, OutOfMemory, OwnsCut, Shows, Stopped, Threw, cut_at, cut_of, result_at, same_cut, standing}
use Rattle.snap_action.proofs.Follows.{begun_at_once}

-- the heap of what a lifted action leaves
left_heap : {X A : Type 0} (place : ℕ) (rest : X) (answer : HeapAnswer A) → left_by (placed place rest answer) ≡ state (left_by answer) rest
left_heap place rest (Gave result heap) = refl
left_heap place rest (ThrewAt value heap) = refl
left_heap place rest (StoppedAt why heap) = refl

module _ {H X A : Type 0} (printed : X → List ℕ) (meaning : H → Value) (place : ℕ) (rest : X) (heap : Heap) (answer : HeapAnswer A) where
  cut_ends : (cut : Cut Stop H) → EndsBy heap_progress meaning heap cut answer → EndsBy (state_progress printed) meaning (state heap rest) (cut_at place cut) (placed place rest answer)
  cut_ends (Threw held) e = ap (placed place rest) e
  cut_ends (Stopped why) e = ap (placed place rest) e
  cut_ends OutOfMemory e =
      subst (λ (left : State X). Precedes (state_progress printed (state heap rest)) (state_progress printed left)) (sym (left_heap place rest answer))
      (record { keys = e.keys; private_nodes = e.private_nodes; printed = begun_at_once (printed rest) })

  cut_owned : (owns : H → Type 0) (cut : Cut Stop H) → OwnsCut owns cut → OwnsCut owns (cut_at place cut)
  cut_owned owns (Threw held) h = h
  cut_owned owns (Stopped why) h = h
  cut_owned owns OutOfMemory h = h

pub lifted : {S H X R A : Type 0} {store : Ghosts S H} (place : ℕ) (printed : X → List ℕ) (rest : X) (before after : S) {shows : Shows R A} (result : Result R (Abrupt H)) (action : Action A)
    → Gives store before after shows result action → GivesMore store same_cut printed before after rest rest shows (result_at place result) (lift place action)
lifted {store = store} place printed rest before after {shows = shows} (Ok result) action h = record {
  comes = λ keys. let k = h.comes keys in record { used = k.used; log = k.log; ends = ap (placed place rest) k.ends };
  owned = h.owned;
  later = h.later;
}
lifted {store = store} place printed rest before after {shows = shows} (Err fault) action h = record {
  comes = λ keys.
      let k = h.comes keys in
      record { used = k.used; log = k.log; ends = cut_ends printed (store.meaning after) place rest (standing (store.view after) (keys ++ k.used)) (action (standing (store.view before) keys)) (cut_of fault) k.ends };
  owned = cut_owned printed (store.meaning after) place rest (standing (store.view after) []) (action (standing (store.view before) [])) (store.owns after) (cut_of fault) h.owned;
  later = h.later;
}
