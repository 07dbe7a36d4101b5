-- What is held stays what it is where buffers grow.
use Rattle.std.specs.Prelude.{◌≡◌, ℕ, ◌+◌, ◌≤◌, List, [], ◌++◌, length, take, drop, slice_index_or}
use Rattle.std.proofs.Common.{sym, ap, ◌∙◌, arith, append_assoc, length-append, length-drop}
use Rattle.std.proofs.lemmas.List.{append-nil, drop-append-le, take-append-le}
use Rattle.std.proofs.Math.Bridge.{le_prop}
use Rattle.snap_arena.specs.declared.held.HeldText.{HeldText}
use Rattle.snap_arena.specs.Texts.{Extends, IsHeld, text_in}

-- buffers begin with what they are
pub extends_itself : (buffers : List (List ℕ)) → Extends buffers buffers
unfolding Extends
extends_itself buffers = λ k. ([], sym (append-nil (slice_index_or buffers k [])))

-- what grows twice has grown
pub extends_still : (first next last : List (List ℕ)) → Extends first next → Extends next last → Extends first last
unfolding Extends
extends_still first next last one other = λ k. ((one k).0 ++ (other k).0, (other k).1 ∙ ap (λ (buffer : List ℕ). buffer ++ (other k).0) (one k).1 ∙ append_assoc (slice_index_or first k []) (one k).0 (other k).0)

-- what is held is still held
pub held_still : (before after : List (List ℕ)) (held : HeldText) → Extends before after → IsHeld before held → IsHeld after held
unfolding Extends IsHeld
held_still before after held grown is_held =
    let more = grown held.buffer in
    omega (arith, ap length more.1, length-append (slice_index_or before held.buffer []) more.0)

-- the units at a place stay where others are put behind them
same_part : (start count : ℕ) (old rest : List ℕ) → start + count ≤ length old → take count (drop start (old ++ rest)) ≡ take count (drop start old)
same_part start count old rest within =
    ap (take count) (drop-append-le start old rest (omega arith)) ∙ take-append-le count (drop start old) rest (omega (arith, length-drop start old))

-- what is held keeps its units
pub text_still : (before after : List (List ℕ)) (held : HeldText) → Extends before after → IsHeld before held → text_in after held ≡ text_in before held
unfolding Extends IsHeld text_in
text_still before after held grown is_held =
    let more = grown held.buffer in
    ap (λ (buffer : List ℕ). take held.length (drop held.start buffer)) more.1 ∙ same_part held.start held.length (slice_index_or before held.buffer []) more.0 is_held

-- there is one proof that a text is held
pub IsHeld-prop : (buffers : List (List ℕ)) (held : HeldText) → IsProp (IsHeld buffers held)
unfolding IsHeld
IsHeld-prop buffers held = le_prop
