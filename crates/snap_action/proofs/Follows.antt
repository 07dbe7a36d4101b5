-- One call behind another.
use Rattle.std.proofs.Common.{◌≡◌, ℕ, Bool, List, [], ◌∷◌, ◌++◌, Option, Result, Ok, Err, refl, sym, ap, subst, ◌∙◌, append_assoc, arith}
use Rattle.std.specs.Result.{IsErrAnd}
use Rattle.std.proofs.lemmas.List.{append-nil}
use Rattle.snap_base.specs.declared.stop.Stop.{Stop}
use Rattle.snap_graph.specs.declared.value.Value.{Value}
use Rattle.snap_store.specs.declared.store.Store.{Ghosts}
use Rattle.snap_store.specs.View.{View}
use Rattle.snap_text.specs.Keys.{logged}
use Rattle.spec_values.specs.Answer.{Action, Answer, Gave, Stopped as StoppedAt, Threw as ThrewAt, ◌>>=◌, followed, give, stop, throw_value}
use Rattle.spec_values.specs.State.{Begins, Precedes, Progress, heap_progress, left_by}
use Rattle.snap_action.specs.declared.fault.Abrupt.{Abrupt}
use Rattle.snap_action.specs.declared.fault.Abrupt.TheVariants as abrupt
use Rattle.snap_action.specs.Gives.{Comes, Cut, Does, Ends, EndsBy, Gives, OutOfMemory, Shows, Stopped, Threw, as_is, standing, told}

-- lists that go on and on
pub begun_at_once : {A : Type 0} (xs : List A) → Begins xs xs
begun_at_once xs = ([], sym (append-nil xs))

begun_further : {A : Type 0} (xs more last : List A) → Begins xs more → Begins more last → Begins xs last
begun_further {A} xs more last one other = (one.0 ++ other.0, other.1 ∙ ap (λ (ys : List A). ys ++ other.0) one.1 ∙ append_assoc xs one.0 other.0)

pub precedes_itself : (at : Progress) → Precedes at at
precedes_itself at = record { keys = begun_at_once at.keys; private_nodes = omega arith; printed = begun_at_once at.printed }

pub precedes_on : (first next last : Progress) → Precedes first next → Precedes next last → Precedes first last
precedes_on first next last one other = record {
  keys = begun_further first.keys next.keys last.keys one.keys other.keys;
  private_nodes = omega (arith, one.private_nodes, other.private_nodes);
  printed = begun_further first.printed next.printed last.printed one.printed other.printed;
}

-- an action goes on from the state in which it begins
pub record Grows {W T A : Type 0} (progress : T → Progress) (action : T → Answer W T A) : Type 0 where
  pub on : (state : T) → Precedes (progress state) (progress (left_by (action state)))

-- what comes of actions behind others
followed_grows : {W T A B : Type 0} (progress : T → Progress) (answer : Answer W T A) (next : A → T → Answer W T B) → ((x : A) → Grows progress (next x)) → Precedes (progress (left_by answer)) (progress (left_by (followed answer next)))
followed_grows progress (Gave x state) next grows = (grows x).on state
followed_grows progress (ThrewAt value state) next grows = precedes_itself (progress state)
followed_grows progress (StoppedAt why state) next grows = precedes_itself (progress state)

pub grows_then : {W T A B : Type 0} {progress : T → Progress} (action : T → Answer W T A) (next : A → T → Answer W T B) → Grows progress action → ((x : A) → Grows progress (next x)) → Grows progress (action >>= next)
grows_then {progress = progress} action next one other = record {
  on = λ state. precedes_on (progress state) (progress (left_by (action state))) _ (one.on state) (followed_grows progress (action state) next other);
}

-- texts that are told behind others
told_behind : (leaves_out : List ℕ → Bool) (texts more : List (List ℕ)) (log : Option (List (List ℕ))) → told leaves_out (texts ++ more) log ≡ told leaves_out more (told leaves_out texts log)
told_behind leaves_out [] more log = refl
told_behind leaves_out (text ∷ texts) more log = told_behind leaves_out texts more (logged leaves_out text log)

told_both : (leaves_out later_out : List ℕ → Bool) (first next last : Option (List (List ℕ))) (used more : List (List ℕ)) → ((text : List ℕ) → later_out text ≡ leaves_out text)
    → next ≡ told leaves_out used first → last ≡ told later_out more next → last ≡ told leaves_out (used ++ more) first
told_both leaves_out later_out first next last used more same one other =
    other ∙ ap (λ (out : List ℕ → Bool). told out more next) (λ i text. same text i) ∙ ap (λ (log : Option (List (List ℕ))). told leaves_out more log) one ∙ sym (told_behind leaves_out used more first)

-- an action that did not give ends so, whatever is behind it
cut_ends : {W H T A B : Type 0} (progress : T → Progress) (meaning : H → Value) (state : T) (cut : Cut W H) (answer : Answer W T A) (rest : A → T → Answer W T B) → ((x : A) → Grows progress (rest x))
    → EndsBy progress meaning state cut answer → EndsBy progress meaning state cut (followed answer rest)
cut_ends progress meaning state (Threw held) answer rest grows e = ap (λ a. followed a rest) e
cut_ends progress meaning state (Stopped why) answer rest grows e = ap (λ a. followed a rest) e
cut_ends progress meaning state OutOfMemory answer rest grows e = precedes_on (progress state) (progress (left_by answer)) _ e (followed_grows progress answer rest grows)

module _ {S H W T E A B R Q : Type 0} {store : Ghosts S H} {cut_of : E → Cut W H} {progress : T → Progress} where
  -- a call that answered, and one behind it
  pub chained : {from middle to : List (List ℕ) → T} {first next last : S} {shows : Shows R A} {more : Shows Q B} {x : R} {result : Result Q E}
      → ((a b c : S) → store.later a b → store.later b c → store.later a c) → ((a b : S) (text : List ℕ) → store.later a b → store.leaves_out b text ≡ store.leaves_out a text)
      → (action : T → Answer W T A) (rest : A → T → Answer W T B)
      → Does store cut_of progress from middle first next shows (Ok x) action → Does store cut_of progress middle to next last more result (rest (shows.view x))
      → Does store cut_of progress from to first last more result (action >>= rest)
  chained {from} {middle} {to} {first} {next} {last} {shows} {more} {x} {result} later_still keeps_left_out action rest one other = record {
    comes = λ keys.
        let h = one.comes keys in
        let k = other.comes (keys ++ h.used) in
        let e : rest (shows.view x) (middle (keys ++ h.used)) ≡ followed (action (from keys)) rest = sym (ap (λ answer. followed answer rest) h.ends) in
        record {
          used = h.used ++ k.used;
          log = told_both (store.leaves_out first) (store.leaves_out next) (store.view first).log (store.view next).log (store.view last).log h.used k.used (λ text. keeps_left_out first next text one.later) h.log k.log;
          ends = subst (λ answer. Ends cut_of progress (store.meaning last) more.view (to (keys ++ (h.used ++ k.used))) result answer) e
              (subst (λ ks. Ends cut_of progress (store.meaning last) more.view (to ks) result (rest (shows.view x) (middle (keys ++ h.used)))) (append_assoc keys h.used k.used) k.ends);
        };
    owned = other.owned;
    later = later_still first next last one.later other.later;
  }

  -- a call that did not answer, whatever would be behind it
  pub cut : {from to : List (List ℕ) → T} {first last : S} {shows : Shows R A} (more : Shows Q B) (fault : E) (action : T → Answer W T A) (rest : A → T → Answer W T B) → ((x : A) → Grows progress (rest x))
      → Does store cut_of progress from to first last shows (Err fault) action → Does store cut_of progress from to first last more (Err fault) (action >>= rest)
  cut {from} {to} {first} {last} {shows} more fault action rest grows one = record {
    comes = λ keys. let h = one.comes keys in record { used = h.used; log = h.log; ends = cut_ends progress (store.meaning last) (to (keys ++ h.used)) (cut_of fault) (action (from keys)) rest grows h.ends };
    owned = one.owned;
    later = one.later;
  }

  -- the fault of a call is that of the one behind which it stands
  pub cut_off : {from to : List (List ℕ) → T} {first last : S} {shows : Shows R A} {more : Shows Q B} {fault : E} (action : T → Answer W T A) (rest : A → T → Answer W T B) → ((x : A) → Grows progress (rest x))
      → Does store cut_of progress from to first last shows (Err fault) action → (result : Result Q E) → IsErrAnd result (λ why. why ≡ fault)
      → Does store cut_of progress from to first last more result (action >>= rest)
  cut_off action rest grows one (Ok x) e = absurd e
  cut_off {from} {to} {first} {last} {shows} {more} {fault} action rest grows one (Err why) e =
      subst (λ w. Does store cut_of progress from to first last more (Err w) (action >>= rest)) (sym e) (cut more fault action rest grows one)

module _ {S H W T E A R : Type 0} {store : Ghosts S H} {cut_of : E → Cut W H} {progress : T → Progress} {from to : List (List ℕ) → T} {first last : S} {shows : Shows R A} {result : Result R E} where
  -- actions that come to the same on what the store stands for
  pub alike : (action other : T → Answer W T A) → ((keys : List (List ℕ)) → action (from keys) ≡ other (from keys)) → Does store cut_of progress from to first last shows result action → Does store cut_of progress from to first last shows result other
  alike action other same h = record {
    comes = λ keys.
        subst (λ answer. Comes cut_of progress (store.meaning last) shows.view (store.leaves_out first) (store.view first).log (store.view last).log to keys result answer) (same keys) (h.comes keys);
    owned = h.owned;
    later = h.later;
  }

  -- an action at what is the same
  pub at_same : {X : Type 0} {x y : X} (action : X → T → Answer W T A) → x ≡ y → Does store cut_of progress from to first last shows result (action x) → Does store cut_of progress from to first last shows result (action y)
  at_same action e h = subst (λ x. Does store cut_of progress from to first last shows result (action x)) e h

-- actions in a row, however they are grouped
pub grouped : {W T X Y B : Type 0} (answer : Answer W T X) (f : X → T → Answer W T Y) (next : Y → T → Answer W T B) (all : X → T → Answer W T B) → ((x : X) (state : T) → followed (f x state) next ≡ all x state)
    → followed (followed answer f) next ≡ followed answer all
grouped (Gave x state) f next all same = same x state
grouped (ThrewAt value state) f next all same = refl
grouped (StoppedAt why state) f next all same = refl

-- a store that stands as it stood
pub record Unmoved {S H : Type 0} (store : Ghosts S H) (first last : S) : Type 0 where
  pub view : store.view last ≡ store.view first
  pub later : store.later first last

module _ {S H : Type 0} {store : Ghosts S H} {first last : S} (h : Unmoved store first last) where
  stood : (keys : List (List ℕ)) → standing (store.view first) keys ≡ standing (store.view last) (keys ++ [])
  stood keys = ap (λ (view : View). standing view keys) (sym h.view) ∙ ap (standing (store.view last)) (sym (append-nil keys))

  same_log : (store.view last).log ≡ (store.view first).log
  same_log = ap (λ (view : View). view.log) h.view

  -- an answer at once, a stop at once, a throw at once
  pub answered : {A R : Type 0} {shows : Shows R A} {x : R} (value : A) → shows.view x ≡ value → shows.owned x → Gives store first last shows (Ok x) (give value)
  answered {shows = shows} {x = x} value e owned = record {
    comes = λ keys. record { used = []; log = same_log; ends = ap (λ v. Gave v (standing (store.view first) keys)) (sym e) ∙ ap (Gave (shows.view x)) (stood keys) };
    owned = owned;
    later = h.later;
  }

  pub stopped : {A R : Type 0} {shows : Shows R A} (why : Stop) → Gives store first last shows (Err (abrupt.Stopped why)) (stop why)
  stopped why = record { comes = λ keys. record { used = []; log = same_log; ends = ap (StoppedAt why) (stood keys) }; owned = tt; later = h.later }

  pub thrown : {A R : Type 0} {shows : Shows R A} (held : H) → store.owns last held → Gives store first last shows (Err (abrupt.Threw held)) (throw_value (store.meaning last held))
  thrown held owned = record { comes = λ keys. record { used = []; log = same_log; ends = ap (ThrewAt (store.meaning last held)) (stood keys) }; owned = owned; later = h.later }

  -- memory ran out before anything was done
  pub unmet : {A R : Type 0} {shows : Shows R A} {action : Action A} → Grows heap_progress action → (result : Result R (Abrupt H)) → IsErrAnd result (λ fault. fault ≡ abrupt.NoMemory) → Gives store first last shows result action
  unmet grows (Ok x) e = absurd e
  unmet {shows = shows} {action = action} grows (Err fault) e =
      subst (λ why. Gives store first last shows (Err why) action) (sym e) (record {
        comes = λ keys.
            record { used = []; log = same_log; ends = subst (λ heap. Precedes (heap_progress heap) (heap_progress (left_by (action (standing (store.view first) keys))))) (stood keys) (grows.on (standing (store.view first) keys)) };
        owned = tt;
        later = h.later;
      })

-- a call behind one that changed nothing
pub moved_on : {S H R A : Type 0} {store : Ghosts S H} {first next last : S} {shows : Shows R A} {result : Result R (Abrupt H)} {action : Action A}
    → ((a b c : S) → store.later a b → store.later b c → store.later a c) → ((a b : S) (text : List ℕ) → store.later a b → store.leaves_out b text ≡ store.leaves_out a text)
    → Unmoved store first next → Gives store next last shows result action → Gives store first last shows result action
moved_on {action = action} later_still keeps_left_out still one =
    chained later_still keeps_left_out (give (tt {0})) (λ done. action) (answered still {shows = as_is} {x = tt {0}} (tt {0}) refl tt) one
