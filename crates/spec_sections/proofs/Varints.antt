-- Varints with something behind them.
use Rattle.std.proofs.Common.{◌≡◌, ℕ, zero, suc, ◌+◌, ◌/◌, ◌%◌, ◌<◌, ◌≤◌, List, [], ◌∷◌, ◌++◌, refl, ⊎_elim, arith}
use Rattle.std.proofs.lemmas.Bool.{cases_lt, lt-ltb, le-ltb}
use Rattle.spec_format.specs.Varint.{varint, varint_within}

-- a number below 128 is one byte
short : (more n : ℕ) → n < 128 → varint_within (suc more) n ≡ n ∷ []
unfolding varint_within
short more n small = rw (lt-ltb n 128 small) refl

-- another has a byte that is not the last in front
long : (more n : ℕ) → 128 ≤ n → varint_within (suc more) n ≡ (128 + n % 128) ∷ varint_within more (n / 128)
unfolding varint_within
long more n large = rw (le-ltb n 128 large) refl

-- the last byte there is room for
last : (n : ℕ) → varint_within zero n ≡ n ∷ []
unfolding varint_within
last n = refl

-- what begins with a varint tells the number and what stands behind it
same_within : (more m n : ℕ) (x y : List ℕ) → varint_within more m ++ x ≡ varint_within more n ++ y → (m ≡ n) × (x ≡ y)
same_within zero m n x y e =
    let heads : (m ∷ x) ≡ (n ∷ y) = rw (last m, last n) at e in
    (cc, cc)
same_within (suc more) m n x y e =
    ⊎_elim
    (λ (m_short : m < 128).
    ⊎_elim
    (λ (n_short : n < 128).
    let heads : (m ∷ x) ≡ (n ∷ y) = rw (short more m m_short, short more n n_short) at e in
    (cc, cc))
    (λ (n_long : 128 ≤ n).
    let heads : (m ∷ x) ≡ ((128 + n % 128) ∷ (varint_within more (n / 128) ++ y)) = rw (short more m m_short, long more n n_long) at e in
    let head : m ≡ 128 + n % 128 = cc in
    absurd (omega arith))
    (cases_lt n 128))
    (λ (m_long : 128 ≤ m).
    ⊎_elim
    (λ (n_short : n < 128).
    let heads : ((128 + m % 128) ∷ (varint_within more (m / 128) ++ x)) ≡ (n ∷ y) = rw (long more m m_long, short more n n_short) at e in
    let head : 128 + m % 128 ≡ n = cc in
    absurd (omega arith))
    (λ (n_long : 128 ≤ n).
    let heads : ((128 + m % 128) ∷ (varint_within more (m / 128) ++ x)) ≡ ((128 + n % 128) ∷ (varint_within more (n / 128) ++ y)) =
    rw (long more m m_long, long more n n_long) at e in
    let head : 128 + m % 128 ≡ 128 + n % 128 = cc in
    let rest = same_within more (m / 128) (n / 128) x y (cc) in
    let high : m / 128 ≡ n / 128 = rest.0 in
    (omega arith, rest.1))
    (cases_lt n 128))
    (cases_lt m 128)

-- the same of the varint itself
pub same_varint : (m n : ℕ) (x y : List ℕ) → varint m ++ x ≡ varint n ++ y → (m ≡ n) × (x ≡ y)
unfolding varint
same_varint m n x y e = same_within 9 m n x y e

-- the varints of 0 and 1
pub varint_of_0 : varint 0 ≡ 0 ∷ []
unfolding varint varint_within
varint_of_0 = refl

pub varint_of_1 : varint 1 ≡ 1 ∷ []
unfolding varint varint_within
varint_of_1 = refl
