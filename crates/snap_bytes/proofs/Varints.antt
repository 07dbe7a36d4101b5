-- Facts of spellings that readers and the writer need.
use Rattle.std.proofs.Common.{◌≡◌, ℕ, zero, suc, ◌+◌, ◌*◌, ◌^◌, ◌<◌, ◌≤◌, List, [], ◌∷◌, ◌++◌, length, take, drop, get_or, ap, subst, drop-cons, ◌⊎◌, ⊎_elim, arith}
use Rattle.std.proofs.lemmas.List.{append_assoc, length-take, take-append-le}
use Rattle.spec_format.specs.Varint.{IsVarint}

-- a byte in front of a spelling
pub IsVarint-more : (b n high : ℕ) (text : List ℕ) → 128 ≤ b → b < 256 → 0 < high → n + 128 ≡ b + 128 * high → IsVarint text high → IsVarint (b ∷ text) n
IsVarint-more b n high [] low top positive sum spelled = absurd spelled
IsVarint-more b n high (c ∷ text) low top positive sum spelled = (low, top, high, positive, sum, spelled)

-- a text spells one number
pub one_number : (text : List ℕ) (m n : ℕ) → IsVarint text m → IsVarint text n → m ≡ n
one_number [] m n p q = absurd p
one_number (b ∷ []) m n p q = omega arith
one_number (b ∷ c ∷ text) m n p q = let high = one_number (c ∷ text) p.2 q.2 p.5 q.5 in omega arith

-- what stands behind some bytes of a spelling spells a number no greater
pub rest_spelled : (i : ℕ) (text : List ℕ) (m : ℕ) → IsVarint text m → i < length text → (h : ℕ) × (h ≤ m) × IsVarint (drop i text) h
rest_spelled zero text m p inside = (m, omega arith, p)
rest_spelled (suc i) [] m p inside = absurd p
rest_spelled (suc i) (b ∷ []) m p inside = absurd (omega arith)
rest_spelled (suc i) (b ∷ c ∷ text) m p inside =
    let rest = rest_spelled i (c ∷ text) p.2 p.5 (omega arith) in
    let below : rest.0 ≤ p.2 = rest.1 in
    (rest.0, omega arith, rest.2)

-- a byte and the spelling of n behind it spell one number
front_byte : (b h n : ℕ) (text : List ℕ) → IsVarint text n → IsVarint (b ∷ text) h → (0 < n) × (128 ≤ b) × (h + 128 ≡ b + 128 * n)
front_byte b h n [] q p = absurd q
front_byte b h n (c ∷ text) q p = let high = one_number (c ∷ text) p.2 n p.5 q in (omega arith, omega arith, omega arith)

-- where the number from byte i on is 0 or too great, and a byte stands before it, the text spells no number of 64 bits
pub no_number : (text : List ℕ) (i n m : ℕ) → 0 < i → i ≤ length text → IsVarint (drop i text) n → (n ≡ 0) ⊎ (2 ^ 57 ≤ n) → IsVarint text m → 2 ^ 64 ≤ m
no_number text zero n m positive inside behind bad whole = absurd (omega arith)
no_number text (suc i) n m positive inside behind bad whole =
    let here : i < length text = omega arith in
    let rest = rest_spelled i text m whole here in
    let below : rest.0 ≤ m = rest.1 in
    let split = drop-cons text i 0 here in
    let P : List ℕ → Type 0 = λ t. IsVarint t rest.0 in
    let front = front_byte (get_or text i 0) rest.0 n (drop (suc i) text) behind (subst P split rest.2) in
    let more : 0 < n = front.0 in
    let low : 128 ≤ get_or text i 0 = front.1 in
    let sum : rest.0 + 128 ≡ get_or text i 0 + 128 * n = front.2 in
    ⊎_elim (λ (none : n ≡ 0). absurd (omega arith)) (λ (great : 2 ^ 57 ≤ n). omega arith) bad

-- a byte that was pushed stands in front of what follows
pub pushed-tail : (items now tail whole : List ℕ) (x : ℕ) → now ≡ items ++ x ∷ [] → items ++ (x ∷ tail) ≡ whole → now ++ tail ≡ whole
pushed-tail items now tail whole x pushed e = rw (pushed, append_assoc) e

-- what is pushed behind the old items keeps them at the front
pub kept-push : (old items more : List ℕ) → take (length old) items ≡ old → take (length old) (items ++ more) ≡ old
kept-push old items more kept =
    let fits : length old ≤ length items = omega (arith, ap length kept, length-take (length old) items) in
    rw take-append-le kept
