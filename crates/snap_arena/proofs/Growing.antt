-- How buffers grow, and what comes to be held thereby.
use Rattle.std.proofs.Common.{◌≡◌, ℕ, ◌+◌, ◌-◌, ◌^◌, ◌<◌, ◌≤◌, List, [], ◌∷◌, ◌++◌, length, take, drop, get_or, Result, Ok, Err, IfOk, OnErr, refl, sym, ap, subst, ◌∙◌, arith, length-append, length-drop, inl, inr}
use Rattle.std.proofs.Math.ListN.{set}
use Rattle.std.proofs.lemmas.List.{append-nil, drop_at, drop-append-le, get_or-set_same, get_or-set_other, get_or_append_left, get_or_past, get_or_push, length_push, length-take-le, take_all, take-take, drop-take, drop-drop}
use Rattle.std.proofs.lemmas.Bool.{cases_eq, cases_lt, cases_order}
use Rattle.snap_arena.specs.Laws.{extends_itself}
use Rattle.snap_arena.specs.declared.held.HeldText.{HeldText}
use Rattle.snap_arena.specs.Texts.{AreSmall, Extends, IsAdded, IsHeld, text_in}

-- a buffer of a list with one more: an old one, the new one, or none
pub at_last : (P : List ℕ → Type 0) (before : List (List ℕ)) (units : List ℕ) (k : ℕ) → ((k < length before) → P (get_or before k [])) → (k ≡ length before → P units) → (length before < k → P []) → P (get_or (before ++ units ∷ []) k [])
at_last P before units k below here past =
    elim (cases_order k (length before)) as (λ _. P (get_or (before ++ units ∷ []) k [])) [
      | inl here' ↦ subst P (sym (get_or_push before units [] k (sym here'))) (here here')
      | inr apart ↦ elim apart as (λ _. P (get_or (before ++ units ∷ []) k [])) [
        | inl less ↦ subst P (sym (get_or_append_left before (units ∷ []) [] k less)) (below less)
        | inr more ↦ subst P (sym (get_or_past (before ++ units ∷ []) k [] (omega (arith, length_push before units)))) (past more)
      ]
    ]

-- a buffer of a list in which one was replaced
pub at_set : (P : List ℕ → Type 0) (before : List (List ℕ)) (number : ℕ) (buffer : List ℕ) (k : ℕ) → number < length before → (k ≡ number → P buffer) → (¬ (k ≡ number) → P (get_or before k [])) → P (get_or (set before number buffer) k [])
at_set P before number buffer k within here other =
    elim (cases_eq k number) as (λ _. P (get_or (set before number buffer) k [])) [
      | inl same ↦ subst P (sym (ap (λ (n : ℕ). get_or (set before number buffer) n []) same ∙ get_or-set_same before number buffer [] within)) (here same)
      | inr apart ↦ subst P (sym (get_or-set_other before number k buffer [] apart)) (other apart)
    ]

-- one more buffer
pub grown_last : (before : List (List ℕ)) (units : List ℕ) → Extends before (before ++ units ∷ [])
unfolding Extends
grown_last before units = λ k. at_last (λ buffer. (rest : List ℕ) × (buffer ≡ get_or before k [] ++ rest)) before units k
    (λ _. ([], sym (append-nil (get_or before k []))))
    (λ here. (units, ap (λ (old : List ℕ). old ++ units) (sym (get_or_past before k [] (omega arith)))))
    (λ past. ([], ap (λ (old : List ℕ). old ++ []) (sym (get_or_past before k [] (omega arith)))))

-- more behind a buffer
pub grown_behind : (before : List (List ℕ)) (number : ℕ) (units : List ℕ) → number < length before → Extends before (set before number (get_or before number [] ++ units))
unfolding Extends
grown_behind before number units within = λ k. at_set (λ buffer. (rest : List ℕ) × (buffer ≡ get_or before k [] ++ rest)) before number (get_or before number [] ++ units) k within
    (λ same. (units, ap (λ (n : ℕ). get_or before n [] ++ units) (sym same)))
    (λ _. ([], sym (append-nil (get_or before k []))))

-- the text that is the whole of a new last buffer
pub added_last : (before : List (List ℕ)) (units : List ℕ) → IsAdded before units (before ++ units ∷ []) (record { buffer = length before; start = 0; length = length units })
unfolding IsHeld text_in
added_last before units =
    let new : get_or (before ++ units ∷ []) (length before) [] ≡ units = get_or_push before units [] (length before) refl in
    record {
      stands = omega (arith, ap length new);
      units = ap (take (length units)) new ∙ take_all (length units) units (omega arith);
      grown = grown_last before units;
    }

-- the text that is put behind a buffer
pub added_behind : (before : List (List ℕ)) (number : ℕ) (units : List ℕ) → number < length before
    → IsAdded before units (set before number (get_or before number [] ++ units)) (record { buffer = number; start = length (get_or before number []); length = length units })
unfolding IsHeld text_in
added_behind before number units within =
    let old = get_or before number [] in
    let new : get_or (set before number (old ++ units)) number [] ≡ old ++ units = get_or-set_same before number (old ++ units) [] within in
    record {
      stands = omega (arith, ap length new, length-append old units);
      units = ap (λ (buffer : List ℕ). take (length units) (drop (length old) buffer)) new ∙ ap (take (length units)) (drop_at old units (length old) refl) ∙ take_all (length units) units (omega arith);
      grown = grown_behind before number units within;
    }

-- a buffer of some unit is one of the list
pub is_there : (before : List (List ℕ)) (number : ℕ) → 0 < length (get_or before number []) → number < length before
is_there before number some =
    elim (cases_lt number (length before)) as (λ _. number < length before) [
      | inl less ↦ less
      | inr past ↦ absurd (omega (arith, ap length (get_or_past before number [] past)))
    ]

-- the units from a place of a buffer to its end are as many as there are
whole_end : (count start : ℕ) (old rest : List ℕ) → start + count ≡ length old → (take (count + length rest) (drop start (old ++ rest)) ≡ take count (drop start old) ++ rest)
whole_end count start old rest ends =
    let there : drop start (old ++ rest) ≡ drop start old ++ rest = drop-append-le start old rest (omega arith) in
    let many : length (drop start old) ≡ count = omega (arith, length-drop start old) in
    let all : take count (drop start old) ≡ drop start old = take_all count (drop start old) (omega arith) in
    ap (take (count + length rest)) there ∙ take_all (count + length rest) (drop start old ++ rest) (omega (arith, length-append (drop start old) rest)) ∙ ap (λ (part : List ℕ). part ++ rest) (sym all)

-- how many units a held text has
pub held_length : (before : List (List ℕ)) (held : HeldText) → IsHeld before held → length (text_in before held) ≡ held.length
unfolding IsHeld text_in
held_length before held is_held = omega (arith, length-take-le held.length (drop held.start (get_or before held.buffer [])) (omega (arith, length-drop held.start (get_or before held.buffer []))))

-- a text that ends its buffer, and another one put behind it
pub added_in_place : (before : List (List ℕ)) (left right : HeldText) → 0 < left.length → left.start + left.length ≡ length (get_or before left.buffer []) → IsHeld before right
    → IsAdded before (text_in before left ++ text_in before right) (set before left.buffer (get_or before left.buffer [] ++ text_in before right)) (record { buffer = left.buffer; start = left.start; length = left.length + right.length })
unfolding IsHeld text_in
added_in_place before left right some ends right_held =
    let old = get_or before left.buffer [] in
    let more = text_in before right in
    let many : length more ≡ right.length = held_length before right right_held in
    let within : left.buffer < length before = is_there before left.buffer (omega arith) in
    let new : get_or (set before left.buffer (old ++ more)) left.buffer [] ≡ old ++ more = get_or-set_same before left.buffer (old ++ more) [] within in
    record {
      stands = omega (arith, ap length new, length-append old more);
      units = ap (λ (buffer : List ℕ). take (left.length + right.length) (drop left.start buffer)) new ∙ ap (λ (count : ℕ). take (left.length + count) (drop left.start (old ++ more))) (sym many) ∙ whole_end left.length left.start old more ends;
      grown = grown_behind before left.buffer more within;
    }

-- a text of no unit, held nowhere
pub added_empty : (before : List (List ℕ)) → IsAdded before [] before (record { buffer = 0; start = 0; length = 0 })
unfolding IsHeld text_in
added_empty before = record { stands = omega arith; units = refl; grown = extends_itself before }

-- what is held, with nothing before it
pub added_right : (before : List (List ℕ)) (left right : HeldText) → left.length ≡ 0 → IsHeld before right → IsAdded before (text_in before left ++ text_in before right) before right
unfolding text_in
added_right before left right none right_held = record {
  stands = right_held;
  units = ap (λ (count : ℕ). take count (drop left.start (get_or before left.buffer [])) ++ text_in before right) (sym none);
  grown = extends_itself before;
}

-- what is held, with nothing behind it
pub added_left : (before : List (List ℕ)) (left right : HeldText) → right.length ≡ 0 → IsHeld before left → IsAdded before (text_in before left ++ text_in before right) before left
unfolding text_in
added_left before left right none left_held = record {
  stands = left_held;
  units = sym (append-nil (text_in before left)) ∙ ap (λ (count : ℕ). text_in before left ++ take count (drop right.start (get_or before right.buffer []))) (sym none);
  grown = extends_itself before;
}

-- a short new buffer
pub small_last : (before : List (List ℕ)) (units : List ℕ) → AreSmall before → length units < 2 ^ 32 → AreSmall (before ++ units ∷ [])
unfolding AreSmall
small_last before units small short = λ k. at_last (λ buffer. length buffer < 2 ^ 32) before units k (λ _. small k) (λ _. short) (λ _. omega arith)

-- a buffer that stays short
pub small_behind : (before : List (List ℕ)) (number : ℕ) (units : List ℕ) → number < length before → AreSmall before → length (get_or before number []) + length units < 2 ^ 32 → AreSmall (set before number (get_or before number [] ++ units))
unfolding AreSmall
small_behind before number units within small short =
    λ k. at_set (λ buffer. length buffer < 2 ^ 32) before number (get_or before number [] ++ units) k within (λ _. omega (arith, length-append (get_or before number []) units)) (λ _. small k)

-- what came to be held, by other names
pub added_at : (before : List (List ℕ)) (text : List ℕ) (after now : List (List ℕ)) (held : HeldText) (buffer start count : ℕ) → IsAdded before text after held → now ≡ after → buffer ≡ held.buffer → start ≡ held.start → count ≡ held.length
    → IsAdded before text now (record { buffer = buffer; start = start; length = count })
added_at before text after now held buffer start count added same b s n =
    let known : IsAdded before text now held = subst (λ (buffers : List (List ℕ)). IsAdded before text buffers held) (sym same) added in
    let back : held ≡ record { buffer = buffer; start = start; length = count } = λ i. record { buffer = sym b i; start = sym s i; length = sym n i } in
    subst (λ (h : HeldText). IsAdded before text now h) back known

-- whether a text came to be held or not, each buffer begins with what it was
pub grown_anyhow : {E : Type 0} (before : List (List ℕ)) (text : List ℕ) (after : List (List ℕ)) (r : Result HeldText E) → IfOk r (IsAdded before text after) → OnErr r (after ≡ before) → Extends before after
grown_anyhow before text after (Ok held) added same = added.grown
grown_anyhow before text after (Err e) added same = subst (λ (buffers : List (List ℕ)). Extends before buffers) (sym same) (extends_itself before)

-- a part of a held text
pub part_text : (start count from to : ℕ) (buffer : List ℕ) → from ≤ to → to ≤ count → take (to - from) (drop (start + from) buffer) ≡ take (to - from) (drop from (take count (drop start buffer)))
part_text start count from to buffer order within =
    let units = drop start buffer in
    let split : count ≡ from + (count - from) = omega arith in
    let rest : drop from (take count units) ≡ take (count - from) (drop from units) = ap (λ (n : ℕ). drop from (take n units)) split ∙ drop-take from (count - from) units in
    ap (take (to - from)) (sym (drop-drop from start buffer)) ∙ sym (take-take (to - from) (count - from) (drop from units) (omega arith)) ∙ ap (take (to - from)) (sym rest)
