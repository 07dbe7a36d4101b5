-- The first answer of a list.
use Rattle.std.proofs.Common.{◌≡◌, ◌⊎◌, inl, inr, ℕ, zero, suc, ◌+◌, ◌<◌, Bool, true, false, ◌||◌, List, [], ◌∷◌, length, take, refl, sym, subst, ap, ◌∙◌, arith}
use Rattle.std.specs.Prelude.{slice_get, Option, None, Some}
use Rattle.std.specs.List.{list_any}
use Rattle.std.specs.Option.{option_or}
use Rattle.std.proofs.lemmas.Bool.{cases_Bool, cases_lt}
use Rattle.spec_scopes.specs.Told.{first_answer, only_if}

-- ---- a value that is there where something is true

pub only_true : {A : Type 0} → (b : Bool) (value other : A) → only_if b value ≡ Some other → (b ≡ true) × (value ≡ other)
only_true true value other e = (refl, cc)
only_true false value other e = absurd cc

pub only_false : {A : Type 0} → (b : Bool) (value : A) → only_if b value ≡ None → b ≡ false
only_false true value e = absurd cc
only_false false value e = refl

-- ---- the first of two answers

pub or_some : {B : Type 0} → (first second : Option B) (value : B) → option_or first second ≡ Some value → (first ≡ Some value) ⊎ (second ≡ Some value)
or_some None second value e = inr e
or_some (Some other) second value e = inl e

pub or_none : {B : Type 0} → (first second : Option B) → option_or first second ≡ None → (first ≡ None) × (second ≡ None)
or_none None second e = (refl, e)
or_none (Some other) second e = absurd cc

-- ---- the first answer of a list

-- an item of a list that has the answer
pub record Answers {A B : Type 0} (answer : ℕ → A → Option B) (items : List A) (value : B) : Type 0 where
  pub place : ℕ
  pub item : A
  pub stands : slice_get items place ≡ Some item
  pub answers : answer place item ≡ Some value

-- no item before a place has an answer
abbrev pub NoneBefore : {A B : Type 0} → (ℕ → A → Option B) → List A → ℕ → Type 0
NoneBefore {A} answer items before = (place : ℕ) (item : A) → place < before → slice_get items place ≡ Some item → answer place item ≡ None

one_item : {A : Type 0} → (items : List A) (place : ℕ) (item other : A) → slice_get items place ≡ Some item → slice_get items place ≡ Some other → item ≡ other
one_item items place item other e d = cc

pub first_answers : {A B : Type 0} → (answer : ℕ → A → Option B) (items : List A) (value : B) → first_answer answer items ≡ Some value → Answers answer items value
first_answers answer [] value e = absurd cc
first_answers answer (item ∷ items) value e =
    elim (or_some (answer 0 item) (first_answer (λ place. answer (suc place)) items) value e) as (λ _. Answers answer (item ∷ items) value) [
      | inl here ↦ record { place = 0; item = item; stands = refl; answers = here }
      | inr behind ↦ (let it = first_answers (λ place. answer (suc place)) items value behind in record { place = suc it.place; item = it.item; stands = it.stands; answers = it.answers })
    ]

pub none_answers : {A B : Type 0} → (answer : ℕ → A → Option B) (items : List A) → first_answer answer items ≡ None → (place : ℕ) (item : A) → slice_get items place ≡ Some item → answer place item ≡ None
none_answers answer [] none place item e = absurd cc
none_answers answer (first ∷ items) none zero item e =
    let same : first ≡ item = cc in
    subst (λ (x : _). answer 0 x ≡ None) same (or_none (answer 0 first) (first_answer (λ place. answer (suc place)) items) none).0
none_answers answer (first ∷ items) none (suc place) item e =
    none_answers (λ place. answer (suc place)) items (or_none (answer 0 first) (first_answer (λ place. answer (suc place)) items) none).1 place item e

-- the answer of an item, where none before it has one
pub first_is : {A B : Type 0} → (answer : ℕ → A → Option B) (items : List A) (place : ℕ) (item : A) → slice_get items place ≡ Some item → NoneBefore answer items place → (value : B) → answer place item ≡ Some value → first_answer answer items ≡ Some value
first_is answer [] place item e none value answers = absurd cc
first_is answer (first ∷ items) zero item e none value answers =
    let same : first ≡ item = cc in
    ap (λ (found : Option _). option_or found (first_answer (λ place. answer (suc place)) items)) (ap (answer 0) same ∙ answers)
first_is answer (first ∷ items) (suc place) item e none value answers =
    ap (λ (found : Option _). option_or found (first_answer (λ place. answer (suc place)) items)) (none 0 first (omega arith) refl)
    ∙ first_is (λ place. answer (suc place)) items place item e (λ before other less at. none (suc before) other (omega arith) at) value answers

-- no answer, where no item has one
pub none_is : {A B : Type 0} → (answer : ℕ → A → Option B) (items : List A) → NoneBefore answer items (length items) → first_answer answer items ≡ None
none_is answer [] none = refl
none_is answer (first ∷ items) none =
    ap (λ (found : Option _). option_or found (first_answer (λ place. answer (suc place)) items)) (none 0 first (omega arith) refl)
    ∙ none_is (λ place. answer (suc place)) items (λ before other less at. none (suc before) other (omega arith) at)

-- one more item has no answer
pub none_more : {A B : Type 0} → (answer : ℕ → A → Option B) (items : List A) (before : ℕ) (item : A) → NoneBefore answer items before → slice_get items before ≡ Some item → answer before item ≡ None → NoneBefore answer items (before + 1)
none_more answer items before item none at here = λ place other less stands.
    elim (cases_lt place before) as (λ _. answer place other ≡ None) [
      | inl earlier ↦ none place other earlier stands
      | inr not_earlier ↦ (let last : before ≡ place = omega arith in
          let same : item ≡ other = one_item items before item other at (subst (λ (n : ℕ). slice_get items n ≡ Some other) (sym last) stands) in
          subst (λ (n : ℕ). answer n other ≡ None) last (subst (λ (x : _). answer before x ≡ None) same here))
    ]

-- ---- an item that passes a test

or_true : (a b : Bool) → b ≡ true → (a || b) ≡ true
or_true true b e = refl
or_true false b e = e

pub any_at : {A : Type 0} → (p : A → Bool) (xs : List A) (i : ℕ) (x : A) → slice_get xs i ≡ Some x → p x ≡ true → list_any p xs ≡ true
any_at p [] i x e passes = absurd cc
any_at p (y ∷ ys) zero x e passes = let same : y ≡ x = cc in ap (λ (z : _). p z || list_any p ys) same ∙ ap (λ (b : Bool). b || list_any p ys) passes
any_at p (y ∷ ys) (suc i) x e passes = or_true (p y) (list_any p ys) (any_at p ys i x e passes)

pub record Passes {A : Type 0} (p : A → Bool) (xs : List A) : Type 0 where
  pub place : ℕ
  pub item : A
  pub stands : slice_get xs place ≡ Some item
  pub passes : p item ≡ true

pub any_passes : {A : Type 0} → (p : A → Bool) (xs : List A) → list_any p xs ≡ true → Passes p xs
any_passes p [] e = absurd cc
any_passes p (x ∷ xs) e =
    elim (cases_Bool (p x)) as (λ _. Passes p (x ∷ xs)) [
      | inl passes ↦ record { place = 0; item = x; stands = refl; passes = passes }
      | inr fails ↦ (let it = any_passes p xs (sym (ap (λ (b : Bool). b || list_any p xs) fails) ∙ e) in record { place = suc it.place; item = it.item; stands = it.stands; passes = it.passes })
    ]

-- ---- the front of a list

pub taken : {A : Type 0} → (xs : List A) (n i : ℕ) (y : A) → slice_get (take n xs) i ≡ Some y → (slice_get xs i ≡ Some y) × (i < n)
taken [] zero i y e = absurd cc
taken [] (suc n) i y e = absurd cc
taken (x ∷ xs) zero i y e = absurd cc
taken (x ∷ xs) (suc n) zero y e = (e, omega arith)
taken (x ∷ xs) (suc n) (suc i) y e = let more : (slice_get xs i ≡ Some y) × (i < n) = taken xs n i y e in (more.0, omega arith)

pub take_at : {A : Type 0} → (xs : List A) (n i : ℕ) (y : A) → i < n → slice_get xs i ≡ Some y → slice_get (take n xs) i ≡ Some y
take_at [] n i y less e = absurd cc
take_at (x ∷ xs) zero i y less e = absurd (omega arith)
take_at (x ∷ xs) (suc n) zero y less e = e
take_at (x ∷ xs) (suc n) (suc i) y less e = take_at xs n i y (omega arith) e
