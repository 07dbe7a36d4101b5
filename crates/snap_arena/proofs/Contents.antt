-- What buffers hold where one of them is replaced.
use Rattle.std.proofs.Common.{◌≡◌, ℕ, ◌+◌, ◌-◌, ◌<◌, List, [], ◌++◌, length, take, drop, get_or, Vec, Global, Result, Ok, Err, OnErr, sym, ap, ◌∙◌, arith}
use Rattle.std.proofs.Math.ListN.{set}
use Rattle.std.proofs.lemmas.List.{get_or-map, get_or-set_other, map-set, set-get_or}
use Rattle.snap_arena.specs.declared.held.HeldText.{HeldText}
use Rattle.snap_arena.specs.Texts.{IsHeld, contents, text_in}

-- a buffer's units stand at its place
pub stands_at : (buffers : List (Vec ℕ Global)) (number : ℕ) (buffer : Vec ℕ Global) → number < length buffers → buffer ≡ get_or buffers number buffer → get_or (contents buffers) number [] ≡ buffer.items
stands_at buffers number buffer within read = get_or-map (λ b. b.items) buffers number buffer [] within ∙ sym (ap (λ (b : Vec ℕ Global). b.items) read)

-- a buffer with more behind it
pub with_more : (buffers : List (Vec ℕ Global)) (number : ℕ) (buffer after : Vec ℕ Global) (more : List ℕ) → number < length buffers → buffer ≡ get_or buffers number buffer → after.items ≡ buffer.items ++ more
    → contents (set buffers number after) ≡ set (contents buffers) number (get_or (contents buffers) number [] ++ more)
with_more buffers number buffer after more within read put =
    map-set (λ b. b.items) buffers number after ∙ ap (set (contents buffers) number) (put ∙ ap (λ (old : List ℕ). old ++ more) (sym (stands_at buffers number buffer within read)))

-- a buffer with the same units
pub with_same : (buffers : List (Vec ℕ Global)) (number : ℕ) (buffer after : Vec ℕ Global) → number < length buffers → buffer ≡ get_or buffers number buffer → after.items ≡ buffer.items → contents (set buffers number after) ≡ contents buffers
with_same buffers number buffer after within read same =
    map-set (λ b. b.items) buffers number after ∙ ap (set (contents buffers) number) (same ∙ sym (stands_at buffers number buffer within read)) ∙ set-get_or (contents buffers) number []

-- what another buffer holds
pub other_buffer : (buffers : List (Vec ℕ Global)) (number : ℕ) (buffer : Vec ℕ Global) (other : ℕ) → ¬ (other ≡ number) → get_or (contents (set buffers number buffer)) other [] ≡ get_or (contents buffers) other []
other_buffer buffers number buffer other apart = ap (λ (all : List (List ℕ)). get_or all other []) (map-set (λ b. b.items) buffers number buffer) ∙ get_or-set_other (contents buffers) number other buffer.items [] apart

-- a text in another buffer is still held
pub other_held : (buffers : List (Vec ℕ Global)) (number : ℕ) (buffer : Vec ℕ Global) (text : HeldText) → ¬ (text.buffer ≡ number) → IsHeld (contents buffers) text → IsHeld (contents (set buffers number buffer)) text
unfolding IsHeld
other_held buffers number buffer text apart held = omega (arith, ap length (other_buffer buffers number buffer text.buffer apart))

-- a text in another buffer keeps its units
pub other_text : (buffers : List (Vec ℕ Global)) (number : ℕ) (buffer : Vec ℕ Global) (text : HeldText) → ¬ (text.buffer ≡ number) → text_in (contents (set buffers number buffer)) text ≡ text_in (contents buffers) text
unfolding text_in
other_text buffers number buffer text apart = ap (λ (units : List ℕ). take text.length (drop text.start units)) (other_buffer buffers number buffer text.buffer apart)

-- a range that is given by its start and its length
pub part_range : (start count : ℕ) (units : List ℕ) → take (start + count - start) (drop start units) ≡ take count (drop start units)
part_range start count units = ap (λ (n : ℕ). take n (drop start units)) (omega arith)

-- what holds anyhow holds where a call failed
pub anyhow : {T E P : Type 0} (r : Result T E) → P → OnErr r P
anyhow (Ok x) p = tt
anyhow (Err e) p = p
