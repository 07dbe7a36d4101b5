-- What spells a number, and that one thing alone does.
use Rattle.std.proofs.Common.{◌≡◌, ℕ, zero, suc, ◌+◌, ◌*◌, ◌/◌, ◌%◌, ◌^◌, ◌<◌, ◌≤◌, Bool, true, false, cond, ltb, List, [], ◌∷◌, ◌++◌, refl, sym, subst, ⊎_elim, arith}
use Rattle.std.proofs.Math.Nat.{pow-suc}
use borrow.Author.Tests.{ltb-true, ltb-false}
use Rattle.std.proofs.lemmas.Bool.{cases_lt}
use Rattle.spec_format.specs.Varint.{IsVarint, varint, varint_within}

-- of two spellings that something follows, neither begins the other
pub same_spelling : (a b x y : List ℕ) (m n : ℕ) → IsVarint a m → IsVarint b n → a ++ x ≡ b ++ y → (a ≡ b) × (m ≡ n)
same_spelling [] b x y m n p q e = absurd p
same_spelling (s ∷ []) [] x y m n p q e = absurd q
same_spelling (s ∷ []) (t ∷ []) x y m n p q e = let head : s ≡ t = cc in (cc, omega arith)
same_spelling (s ∷ []) (t ∷ u ∷ b) x y m n p q e = let head : s ≡ t = cc in absurd (omega arith)
same_spelling (s ∷ u ∷ a) [] x y m n p q e = absurd q
same_spelling (s ∷ u ∷ a) (t ∷ []) x y m n p q e = let head : s ≡ t = cc in absurd (omega arith)
same_spelling (s ∷ u ∷ a) (t ∷ v ∷ b) x y m n p q e =
    let head : s ≡ t = cc in
    let rest = same_spelling (u ∷ a) (v ∷ b) x y p.2 q.2 p.5 q.5 (cc) in
    let tail : (u ∷ a) ≡ (v ∷ b) = rest.0 in
    let high : p.2 ≡ q.2 = rest.1 in
    (cc, omega arith)

-- a byte in front of a spelling
pub IsVarint-more : (b n high : ℕ) (text : List ℕ) → 128 ≤ b → b < 256 → 0 < high → n + 128 ≡ b + 128 * high → IsVarint text high → IsVarint (b ∷ text) n
IsVarint-more b n high [] low top positive sum spelled = absurd spelled
IsVarint-more b n high (c ∷ text) low top positive sum spelled = (low, top, high, positive, sum, spelled)

-- each number up to a bound has a spelling
pub spelled_below : (bound n : ℕ) → n ≤ bound → (text : List ℕ) × IsVarint text n
spelled_below zero n h = (0 ∷ [], (omega arith, omega arith))
spelled_below (suc bound) n h =
    ⊎_elim
    (λ (small : n < 128). (n ∷ [], (small, refl)))
    (λ (large : 128 ≤ n).
    let rest = spelled_below bound (n / 128) (omega arith) in
    ((n % 128 + 128) ∷ rest.0, IsVarint-more (n % 128 + 128) n (n / 128) rest.0 (omega arith) (omega arith) (omega arith) (omega arith) rest.1))
    (cases_lt n 128)

-- a spelling that a test chooses
spelled_by_test : (b : Bool) (n : ℕ) (short long : List ℕ) → (b ≡ true → IsVarint short n) → (b ≡ false → IsVarint long n) → IsVarint (cond b short long) n
spelled_by_test true n short long p q = p refl
spelled_by_test false n short long p q = q refl

-- the bytes that the definition gives spell the number, where it is within their reach
within_spells : (more n : ℕ) → n < 128 * 128 ^ more → IsVarint (varint_within more n) n
unfolding varint_within
within_spells zero n h = (omega arith, refl)
within_spells (suc more) n h =
    let power = pow-suc 128 more in
    spelled_by_test (ltb n 128) n (n ∷ []) ((128 + n % 128) ∷ varint_within more (n / 128))
    (λ e. (let small : n < 128 = omega (arith, ltb-true) in small, refl))
    (λ e.
    let large : 128 ≤ n = omega (arith, ltb-false) in
    let rest = within_spells more (n / 128) (omega (arith, power)) in
    IsVarint-more (128 + n % 128) n (n / 128) (varint_within more (n / 128)) (omega arith) (omega arith) (omega arith) (omega arith) rest)

-- the spelling of a number below 2 ^ 64 spells it
pub varint_spelled : (n : ℕ) → n < 2 ^ 64 → IsVarint (varint n) n
unfolding varint
varint_spelled n h = within_spells 9 n (omega arith)

-- a number has one spelling
pub one_spelling : (a b : List ℕ) (n : ℕ) → IsVarint a n → IsVarint b n → a ≡ b
one_spelling [] b n p q = absurd p
one_spelling (s ∷ []) [] n p q = absurd q
one_spelling (s ∷ []) (t ∷ []) n p q = let head : s ≡ t = omega arith in cc
one_spelling (s ∷ []) (t ∷ u ∷ b) n p q = absurd (omega arith)
one_spelling (s ∷ u ∷ a) [] n p q = absurd q
one_spelling (s ∷ u ∷ a) (t ∷ []) n p q = absurd (omega arith)
one_spelling (s ∷ u ∷ a) (t ∷ v ∷ b) n p q =
    let head : s ≡ t = omega arith in
    let high : p.2 ≡ q.2 = omega arith in
    let Q : ℕ → Type 0 = λ m. IsVarint (v ∷ b) m in
    let rest : (u ∷ a) ≡ (v ∷ b) = one_spelling (u ∷ a) (v ∷ b) p.2 p.5 (subst Q (sym high) q.5) in
    cc
