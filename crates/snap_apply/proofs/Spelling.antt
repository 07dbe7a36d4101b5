-- The texts of values, one behind the other.
use Rattle.std.proofs.Common.{◌≡◌, ℕ, ◌||◌, true, List, [], IfOk, Result, Ok, Err, is_some, refl, sym, ap, ◌∙◌}
use Rattle.std.proofs.lemmas.Bool.{false≢true}
use Rattle.snap_base.specs.declared.stop.Stop.{Stop}
use Rattle.snap_graph.specs.declared.value.Value.{Value}
use Rattle.snap_graph.specs.declared.value.Value.TheVariants.{Text}
use Rattle.snap_store.specs.Calls.{text_units, units_in}
use Rattle.spec_values.specs.Access.{or_stop}
use Rattle.snap_store.specs.declared.store.Store.{Ghosts}
use Rattle.spec_values.specs.Answer.{◌>>=◌, Gave, Heap, give}
use Rattle.spec_values.specs.Conversions.{text_of}
use Rattle.spec_values.specs.Operators.{added, joined, joined_values}
use Rattle.snap_action.specs.declared.fault.Abrupt.{Abrupt}
use Rattle.snap_action.specs.Gives.{Gives, as_held, standing}
use Rattle.snap_apply.specs.Judged.{spelled}
use Rattle.snap_apply.proofs.Apart.{its_text}

-- `+` joins texts where a text is on either side
added_joins : (left right : Value) → is_some (text_units left) || is_some (text_units right) ≡ true → joined_values left right ≡ added left right
added_joins (Text text) right e = refl
added_joins left (Text text) e = refl
added_joins left right e = absurd (false≢true e)

-- the texts are made one after the other, and then joined
spelled_in_turn : (left right : Value) (one other : Result (List ℕ) Stop) (heap : Heap) → text_of left ≡ one → text_of right ≡ other
    → (or_stop (spelled left) >>= λ v. or_stop (spelled right) >>= λ w. or_stop (joined (units_in v) (units_in w))) heap ≡ or_stop (joined_values left right) heap
spelled_in_turn left right (Err why) other heap e f = rw e refl
spelled_in_turn left right (Ok text) (Err why) heap e f = rw (e, f) refl
spelled_in_turn left right (Ok text) (Ok more) heap e f = rw (e, f) refl

pub adds_in_turn : (left right : Value) (heap : Heap) → is_some (text_units left) || is_some (text_units right) ≡ true
    → (or_stop (spelled left) >>= λ v. or_stop (spelled right) >>= λ w. or_stop (joined (units_in v) (units_in w))) heap ≡ or_stop (added left right) heap
adds_in_turn left right heap e = spelled_in_turn left right (text_of left) (text_of right) heap refl refl ∙ ap (λ answer. or_stop answer heap) (added_joins left right e)

-- a text is its own text
pub spells_itself : (value : Value) (heap : Heap) → is_some (text_units value) ≡ true → give value heap ≡ or_stop (spelled value) heap
spells_itself value heap e = ap (λ (v : Value). give v heap) (sym (its_text value e)) ∙ ap (λ (v : Value). or_stop (spelled v) heap) (its_text value e)

pub spells : (value : Value) (text : List ℕ) (heap : Heap) → text_of value ≡ Ok text → give (Text text) heap ≡ or_stop (spelled value) heap
spells value text heap e = rw e refl

-- what was given is what is held
pub given : {S H : Type 0} {store : Ghosts S H} {first last : S} (value : Value) (result : Result H (Abrupt H)) → Gives store first last (as_held store last) result (give value) → IfOk result (λ held. store.meaning last held ≡ value)
given {store = store} {first = first} {last = last} value (Ok held) h =
    let k = h.comes [] in
    let e : Gave value (standing (store.view first) []) ≡ Gave (store.meaning last held) (standing (store.view last) k.used) = k.ends in
    cc
given value (Err fault) h = tt

pub text_given : {H : Type 0} (meaning : H → Value) (value : Value) (result : Result H (Abrupt H)) → is_some (text_units value) ≡ true → IfOk result (λ held. meaning held ≡ value)
    → IfOk result (λ held. is_some (text_units (meaning held)) ≡ true)
text_given meaning value (Ok held) e h = ap (λ (v : Value). is_some (text_units v)) h ∙ e
text_given meaning value (Err fault) e h = tt
