-- What a reading finds: a phrase where its height fits, and else that it is nested too deep.
use Rattle.std.proofs.Common.{◌≡◌, ℕ, zero, suc, ◌≤◌, ◌<◌, Bool, true, false, ◌⊎◌, inl, inr, List, refl, arith, if◌then◌else◌}
use Rattle.std.specs.Prelude.{Ok, Err, nat_le}
use Rattle.spec_tokens.specs.Tokens.{Lexeme}
use Rattle.spec_grammar.specs.Outcome.{Outcome, Parser, Nested, and_then, check, expect}
use Rattle.spec_grammar.specs.Phrase.{Phrase}
use Rattle.spec_grammar.specs.Read.{phrase}
use Rattle.spec_grammar.specs.ReadExpressions.{fits}
use Rattle.spec_grammar.specs.Sign.{next, sees}
use Rattle.spec_grammar.specs.declared.sign.Sign.{Sign}
use Rattle.spec_grammar.specs.declared.start.Start.{Start}

-- a refusal for too many levels
abbrev pub IsNested : {A : Type 0} → Outcome A → Type 0
IsNested (Ok found) = ⊥
IsNested (Err refusal) = refusal.cause ≡ Nested

-- what is found where there is room for so many levels, by the levels that it has
pub record Finds {A : Type 0} (room height : ℕ) (outcome : Outcome A) (value : A) (rest : List Lexeme) : Type 0 where
  pub fits : height ≤ room → outcome ≡ Ok (value, rest)
  pub over : room < height → IsNested outcome

pub found_here : {A : Type 0} {room height : ℕ} {value : A} {rest : List Lexeme} → height ≤ room → Finds room height (Ok (value, rest)) value rest
found_here le = record { fits = λ h. refl; over = λ h. absurd (omega arith) }

pub found_expect : {B : Type 0} {room height : ℕ} {rest : List Lexeme} {b : B} (sign : Sign) (input : List Lexeme) (f : Unit {0} → Parser B) → sees sign input ≡ true → Finds room height (f tt (next input)) b rest → Finds room height (and_then (expect sign input) f) b rest
unfolding expect
found_expect sign input f seen found = rw seen found

pub found_check : {B : Type 0} {room height : ℕ} {rest : List Lexeme} {b : B} (test : Bool) (input : List Lexeme) (f : Unit {0} → Parser B) → test ≡ true → Finds room height (f tt input) b rest → Finds room height (and_then (check test input) f) b rest
unfolding check
found_check test input f holds found = rw holds found

pub found_true : {B : Type 0} {room height : ℕ} {rest : List Lexeme} {b : B} (test : Bool) (input : List Lexeme) (p q : Parser B) → test ≡ true → Finds room height (p input) b rest → Finds room height ((if test then p else q) input) b rest
found_true test input p q holds found = rw holds found

pub found_false : {B : Type 0} {room height : ℕ} {rest : List Lexeme} {b : B} (test : Bool) (input : List Lexeme) (p q : Parser B) → test ≡ false → Finds room height (q input) b rest → Finds room height ((if test then p else q) input) b rest
found_false test input p q holds found = rw holds found

pub found_ok : {A B : Type 0} {room height : ℕ} {a : A} {middle rest : List Lexeme} {b : B} (outcome : Outcome A) (f : A → Parser B) → outcome ≡ Ok (a, middle) → Finds room height (f a middle) b rest → Finds room height (and_then outcome f) b rest
found_ok outcome f e found = rw e found

nested_then : {A B : Type 0} (outcome : Outcome A) (f : A → Parser B) → IsNested outcome → IsNested (and_then outcome f)
nested_then (Ok found) f h = absurd h
nested_then (Err refusal) f h = h

pub le_or_lt : (a b : ℕ) → (a ≤ b) ⊎ (b < a)
le_or_lt zero b = inl (omega arith)
le_or_lt (suc a) zero = inr (omega arith)
le_or_lt (suc a) (suc b) = elim (le_or_lt a b) [ inl h ↦ inl (omega arith) | inr h ↦ inr (omega arith) ]

nested_ok : {A B : Type 0} {a : A} {middle : List Lexeme} (outcome : Outcome A) (f : A → Parser B) → outcome ≡ Ok (a, middle) → IsNested (f a middle) → IsNested (and_then outcome f)
nested_ok outcome f e nested = rw e nested

over_then : {A B : Type 0} {room height total : ℕ} {a : A} {middle rest : List Lexeme} {b : B} (outcome : Outcome A) (f : A → Parser B) → Finds room height outcome a middle → (height ≤ room → Finds room total (f a middle) b rest) → room < total → (height ≤ room) ⊎ (room < height) → IsNested (and_then outcome f)
over_then outcome f first second over (inl h) = let found = second h in nested_ok outcome f (first.fits h) (found.over over)
over_then outcome f first second over (inr h) = nested_then outcome f (first.over h)

fits_then : {A B : Type 0} {room height total : ℕ} {a : A} {middle rest : List Lexeme} {b : B} (outcome : Outcome A) (f : A → Parser B) → Finds room height outcome a middle → (height ≤ room → Finds room total (f a middle) b rest) → height ≤ room → total ≤ room → and_then outcome f ≡ Ok (b, rest)
fits_then outcome f first second h fit = let found = second h in rw (first.fits h) (found.fits fit)

pub found_then : {A B : Type 0} {room height total : ℕ} {a : A} {middle rest : List Lexeme} {b : B} (outcome : Outcome A) (f : A → Parser B) → Finds room height outcome a middle → height ≤ total → (height ≤ room → Finds room total (f a middle) b rest) → Finds room total (and_then outcome f) b rest
found_then {room = room} {height = height} outcome f first le second = record {
  fits = λ h. fits_then outcome f first second (omega arith) h;
  over = λ over. over_then outcome f first second over (le_or_lt height room);
}

-- where there is room for one level more
pub found_up : {A : Type 0} {room height : ℕ} {outcome : Outcome A} {value : A} {rest : List Lexeme} → Finds room height outcome value rest → Finds (suc room) (suc height) outcome value rest
found_up found = record { fits = λ h. found.fits (omega arith); over = λ h. found.over (omega arith) }

fits_here : (below : Start → Parser Phrase) (room : ℕ) (value : Phrase) (input : List Lexeme) → (value.height ≤ room) ⊎ (room < value.height) → Finds room value.height (fits below room value input) tt input
unfolding fits
fits_here below room value input (inl h) =
    let test : nat_le value.height room ≡ true = grind arith in
    record { fits = λ le. rw test refl; over = λ o. absurd (omega arith) }
fits_here below room value input (inr h) =
    let test : nat_le value.height room ≡ false = grind arith in
    record { fits = λ le. absurd (omega arith); over = λ o. rw test refl }

pub found_fits : {B : Type 0} {room total : ℕ} {rest : List Lexeme} {b : B} (below : Start → Parser Phrase) (value : Phrase) (input : List Lexeme) (f : Unit {0} → Parser B) → value.height ≤ total → (value.height ≤ room → Finds room total (f tt input) b rest) → Finds room total (and_then (fits below room value input) f) b rest
found_fits {room = room} below value input f le second = found_then (fits below room value input) f (fits_here below room value input (le_or_lt value.height room)) le second

-- a node above it takes one level more
pub found_below : {B : Type 0} {room total : ℕ} {rest : List Lexeme} {b : B} (below : Start → Parser Phrase) (value : Phrase) (input : List Lexeme) (f : Unit {0} → Parser B) → suc value.height ≤ total → (value.height ≤ room → Finds (suc room) total (f tt input) b rest) → Finds (suc room) total (and_then (fits below room value input) f) b rest
found_below {room = room} below value input f le second = found_then (fits below room value input) f (found_up (fits_here below room value input (le_or_lt value.height room))) le (λ h. second (omega arith))

-- a reading that goes on is one reading
pub found_assoc : {A B C : Type 0} {room height : ℕ} {rest : List Lexeme} {c : C} (outcome : Outcome A) (f : A → Parser B) (h : B → Parser C) → Finds room height (and_then (and_then outcome f) h) c rest → Finds room height (and_then outcome (λ a input. and_then (f a input) h)) c rest
found_assoc (Ok found) f h all = all
found_assoc (Err refusal) f h all = all

-- at every level, where a phrase has one at least
pub at_any : {rest : List Lexeme} {value : Phrase} (start : Start) (input : List Lexeme) → 1 ≤ value.height → ((room : ℕ) → Finds (suc room) value.height (phrase (suc room) start input) value rest) → (room : ℕ) → Finds room value.height (phrase room start input) value rest
unfolding phrase
at_any start input tall found zero = record { fits = λ h. absurd (omega arith); over = λ h. refl }
at_any start input tall found (suc room) = found room
