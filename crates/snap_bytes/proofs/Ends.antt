-- Where a varint at the front of some bytes ends.
use Rattle.std.proofs.Common.{◌≡◌, ℕ, zero, suc, ◌+◌, ◌^◌, ◌<◌, ◌≤◌, List, [], ◌∷◌, ◌++◌, length, take, drop, get_or, sym, ap, subst, ◌∙◌, ⊎_elim, arith, length-append}
use Rattle.std.proofs.lemmas.Bool.{cases_lt}
use Rattle.std.proofs.lemmas.List.{get_or_append_left, get_or_default, take_at, take-append-drop, append_cancel_left}
use Rattle.spec_format.specs.Varint.{IsVarint, HasNoLastByte, IsBadVarint}
use Rattle.snap_bytes.specs.declared.fault.ByteFault.{ByteFault}
use Rattle.snap_bytes.specs.declared.fault.ByteFault.TheVariants.{Truncated, BadNumber}
use Rattle.snap_bytes.specs.Place.{Place}
use Rattle.snap_bytes.specs.Reading.{IsWhole, IsVarintFault}
use Rattle.snap_bytes.proofs.Varints.{one_number}

-- a byte in front of bytes that go on
goes_on-cons : (b last : ℕ) (text : List ℕ) → 128 ≤ b → ((k : ℕ) → k < last → 128 ≤ get_or text k 0) → (k : ℕ) → k < suc last → 128 ≤ get_or (b ∷ text) k 0
goes_on-cons b last text low more zero h = low
goes_on-cons b last text low more (suc k) h = more k (omega arith)

-- a spelling has one last byte, at its end
pub ends_whole : (text : List ℕ) (n : ℕ) → IsVarint text n → (last : ℕ) × IsWhole text last
ends_whole [] n p = absurd p
ends_whole (b ∷ []) n p = (0, record { len = omega arith; ends = p.0; goes_on = λ k h. absurd (omega arith) })
ends_whole (b ∷ c ∷ text) n p =
    let rest = ends_whole (c ∷ text) p.2 p.5 in
    let len : length (c ∷ text) ≡ rest.0 + 1 = rest.1.len in
    (suc rest.0, record { len = omega arith; ends = rest.1.ends; goes_on = goes_on-cons b rest.0 (c ∷ text) p.0 rest.1.goes_on })

-- a byte of the front
at_front : (bytes text rest : List ℕ) (k : ℕ) → bytes ≡ text ++ rest → k < length text → get_or bytes k 0 ≡ get_or text k 0
at_front bytes text rest k e inside = rw e (get_or_append_left text rest 0 k inside)

-- bytes that begin with a spelling have a last byte of a varint
pub has_last : (bytes text rest : List ℕ) (n : ℕ) → bytes ≡ text ++ rest → IsVarint text n → HasNoLastByte bytes → ⊥
has_last bytes text rest n e p none =
    let whole = ends_whole text n p in
    let len : length text ≡ whole.0 + 1 = whole.1.len in
    let ends : get_or text whole.0 0 < 128 = whole.1.ends in
    let same = at_front bytes text rest whole.0 e (omega arith) in
    let all : length bytes ≡ length text + length rest = ap length e ∙ length-append text rest in
    let low : 128 ≤ get_or bytes whole.0 0 = none whole.0 0 (omega arith) in
    omega arith

-- of two whole texts at the front, neither ends sooner
ends_no_sooner : (bytes text rest other more : List ℕ) (last end : ℕ) → bytes ≡ text ++ rest → bytes ≡ other ++ more → IsWhole text last → IsWhole other end → end ≤ last
ends_no_sooner bytes text rest other more last end e f whole first =
    let sooner_not : last < end → ⊥ = λ sooner.
    let here = at_front bytes text rest last e (omega arith) in
    let there = at_front bytes other more last f (omega arith) in
    let goes_on = first.goes_on last sooner in
    omega arith in
    ⊎_elim (λ (sooner : last < end). absurd (sooner_not sooner)) (λ (later : end ≤ last). later) (cases_lt last end)

-- one whole text stands at the front
pub one_end : (bytes text rest other more : List ℕ) (last end : ℕ) → bytes ≡ text ++ rest → bytes ≡ other ++ more → IsWhole text last → IsWhole other end → text ≡ other
one_end bytes text rest other more last end e f whole first =
    let upper = ends_no_sooner bytes text rest other more last end e f whole first in
    let lower = ends_no_sooner bytes other more text rest end last f e first whole in
    let len : length other ≡ last + 1 = omega arith in
    sym (take_at text rest (last + 1) whole.len) ∙ ap (take (last + 1)) (sym e ∙ f) ∙ take_at other more (last + 1) len

-- where the whole text at the front spells no number of 64 bits, the varint is a bad one
pub bad_front : (bytes : List ℕ) (last : ℕ) → last < length bytes → IsWhole (take (last + 1) bytes) last → ((n : ℕ) → IsVarint (take (last + 1) bytes) n → 2 ^ 64 ≤ n) → IsBadVarint bytes
bad_front bytes last inside front great =
    let split = sym (take-append-drop (last + 1) bytes) in
    let same = at_front bytes (take (last + 1) bytes) (drop (last + 1) bytes) last split (omega (arith, front.len)) in
    record {
      complete = (last, get_or bytes last 0, inside, get_or_default bytes last _ 0 inside, omega (arith, front.ends));
      no_number = λ text rest n e p.
          let whole = ends_whole text n p in
          let P : List ℕ → Type 0 = λ t. IsVarint t n in
          great n (subst P (one_end bytes text rest (take (last + 1) bytes) (drop (last + 1) bytes) whole.0 last e split whole.1 front) p);
    }

-- some bytes begin with one spelling
pub one_front : (bytes text more other rest : List ℕ) (m n : ℕ) → bytes ≡ text ++ more → bytes ≡ other ++ rest → IsVarint text m → IsVarint other n → (text ≡ other) × (m ≡ n) × (more ≡ rest)
one_front bytes text more other rest m n e f p q =
    let whole = ends_whole text m p in
    let first = ends_whole other n q in
    let same = one_end bytes text more other rest whole.0 first.0 e f whole.1 first.1 in
    let P : List ℕ → Type 0 = λ t. IsVarint t m in
    (same, one_number other m n (subst P same p) q, append_cancel_left other more rest (ap (λ t. t ++ more) (sym same) ∙ sym e ∙ f))

-- where a number of 64 bits is spelled at the front, there is no fault
pub no_fault : (place : Place) (fault : ByteFault) (text rest : List ℕ) (n : ℕ) → n < 2 ^ 64 → IsVarint text n → place.left ≡ text ++ rest → IsVarintFault place fault → ⊥
no_fault place (Truncated at) text rest n small p e fault = has_last place.left text rest n e p fault.0
no_fault place (BadNumber at) text rest n small p e fault = let great = fault.0.no_number text rest n e p in omega arith
