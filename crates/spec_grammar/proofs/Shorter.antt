-- What is read leaves no more tokens than there were.
use Rattle.std.proofs.Common.{◌∙◌, ◌≡◌, ℕ, suc, ◌≤◌, ◌<◌, true, false, Bool, List, [], ◌∷◌, ◌++◌, length, refl, sym, ap, subst, true≢false, arith, if◌then◌else◌, not, ◌&&◌, ◌||◌}
use Rattle.std.specs.Prelude.{Option, Some, None, Ok, Err}
use Rattle.spec_tokens.specs.Tokens.{Lexeme}
use Rattle.snap_ast.specs.declared.part.Named.{Named}
use Rattle.spec_grammar.specs.Operators.{tail_of}
use Rattle.spec_grammar.specs.Outcome.{Outcome, Refusal, refuse}
use Rattle.spec_grammar.specs.Parts.{ArrowHead, arrow_head, arrow_of, behind_arrow, ends_line, is_lone_name, is_of, is_some, is_tail, is_update, names_from, named_at, OfHead, of_head, parameters, pattern, postfix_at, semicolon}
use Rattle.spec_grammar.specs.Sign.{newline_at, next, same_sign, sees, sign_at}
use Rattle.spec_grammar.specs.declared.sign.Sign.{Sign}
use Rattle.spec_grammar.specs.declared.sign.Sign.TheVariants as s

pub next_le : (input : List Lexeme) → length (next input) ≤ length input
unfolding next
next_le [] = omega arith
next_le (lexeme ∷ rest) = omega arith

pub sign_shorter : (input : List Lexeme) (sign : Sign) → sign_at input ≡ sign → same_sign s.End sign ≡ false → length (next input) < length input
unfolding next sign_at same_sign
sign_shorter [] sign e d = absurd (true≢false (subst (λ x. same_sign s.End x ≡ false) (sym e) d))
sign_shorter (lexeme ∷ rest) sign e d = omega arith

pub sees_shorter : (input : List Lexeme) (sign : Sign) → sees sign input ≡ true → same_sign s.End sign ≡ false → length (next input) < length input
unfolding next sign_at sees
sees_shorter [] sign e d = absurd (true≢false (sym e ∙ d))
sees_shorter (lexeme ∷ rest) sign e d = omega arith

-- what is answered is nothing but a refusal
err_not_ok : {A : Type 0} {refusal : Refusal} {found : A × List Lexeme} → ◌≡◌ {A = Outcome A} (Err refusal) (Ok found) → ⊥
err_not_ok e = absurd cc

-- where a test decides between an answer and another reading, each leaves no more tokens
choice_le : {A : Type 0} (test : Bool) (yield other : Outcome A) (limit : ℕ) → ((found : A × List Lexeme) → yield ≡ Ok found → length found.1 ≤ limit) → ((found : A × List Lexeme) → other ≡ Ok found → length found.1 ≤ limit) → (found : A × List Lexeme) → (if test then yield else other) ≡ Ok found → length found.1 ≤ limit
choice_le true yield other limit first second = first
choice_le false yield other limit first second = second

IsWithin : {A : Type 0} → ℕ → Outcome A → Type 0
IsWithin limit (Ok found) = length found.1 ≤ limit
IsWithin limit (Err refusal) = Unit {0}

ok_le : {A : Type 0} (value : A) (rest : List Lexeme) (limit : ℕ) → length rest ≤ limit → (found : A × List Lexeme) → ◌≡◌ {A = Outcome A} (Ok (value, rest)) (Ok found) → length found.1 ≤ limit
unfolding IsWithin
ok_le value rest limit le found e = subst (λ o. IsWithin limit o) e le

refused_le : {A : Type 0} (refusal : Refusal) (limit : ℕ) (found : A × List Lexeme) → ◌≡◌ {A = Outcome A} (Err refusal) (Ok found) → length found.1 ≤ limit
refused_le refusal limit found e = absurd (err_not_ok e)

names_le : (close : Sign) (may_lack is_behind : Bool) (names : List Named) (input : List Lexeme) (found : List Named × List Lexeme) → names_from close may_lack is_behind names input ≡ Ok found → length found.1 ≤ length input
unfolding names_from
names_le close may_lack true names [] found e = absurd (err_not_ok e)
names_le close may_lack false names [] found e = absurd (err_not_ok e)
names_le close may_lack true names (lexeme ∷ rest) found e =
    choice_le (sees close (lexeme ∷ rest)) (Ok (names, rest)) (if sees s.Comma (lexeme ∷ rest) then names_from close may_lack false names rest else refuse (lexeme ∷ rest)) (suc (length rest))
    (ok_le names rest (suc (length rest)) (omega arith))
    (choice_le (sees s.Comma (lexeme ∷ rest)) (names_from close may_lack false names rest) (refuse (lexeme ∷ rest)) (suc (length rest))
    (λ found e. let le = names_le close may_lack false names rest found e in omega (arith, le))
    (refused_le _ (suc (length rest))))
    found e
names_le close may_lack false names (lexeme ∷ rest) found e =
    choice_le (sees s.Name (lexeme ∷ rest)) (names_from close may_lack true (names ++ named_at (lexeme ∷ rest) ∷ []) rest) (if sees close (lexeme ∷ rest) && (may_lack || is_some names) then Ok (names, rest) else refuse (lexeme ∷ rest)) (suc (length rest))
    (λ found e. let le = names_le close may_lack true (names ++ named_at (lexeme ∷ rest) ∷ []) rest found e in omega (arith, le))
    (choice_le (sees close (lexeme ∷ rest) && (may_lack || is_some names)) (Ok (names, rest)) (refuse (lexeme ∷ rest)) (suc (length rest))
    (ok_le names rest (suc (length rest)) (omega arith))
    (refused_le _ (suc (length rest))))
    found e

pub parameters_le : (input rest : List Lexeme) (names : List Named) → parameters input ≡ Ok (names, rest) → length rest ≤ length input
unfolding parameters
parameters_le input rest names e = names_le s.CloseParen true false [] input (names, rest) e

pub pattern_le : (input rest : List Lexeme) (names : List Named) → pattern input ≡ Ok (names, rest) → length rest ≤ length input
unfolding pattern
pattern_le input rest names e = names_le s.CloseCurly false false [] input (names, rest) e

pub semicolon_le : (input rest : List Lexeme) → semicolon input ≡ Ok (tt, rest) → length rest ≤ length input
unfolding semicolon
semicolon_le input rest e =
    choice_le (sees s.Semicolon input) (Ok (tt, next input)) (if ends_line input then Ok (tt, input) else refuse input) (length input)
    (ok_le tt (next input) (length input) (next_le input))
    (choice_le (ends_line input) (Ok (tt, input)) (refuse input) (length input) (ok_le tt input (length input) (omega arith)) (refused_le _ (length input)))
    (tt, rest) e

-- ---- heads

IsBehind : List Lexeme → Option ArrowHead → Type 0
IsBehind input None = Unit {0}
IsBehind input (Some head) = head.behind ≡ next input

arrow_choice : (test : Bool) (names : List Named) (input : List Lexeme) (head : ArrowHead) → (if test then Some (record { names = names; behind = next input }) else None) ≡ Some head → head.behind ≡ next input
unfolding IsBehind
arrow_choice true names input head e = subst (λ o. IsBehind input o) e refl
arrow_choice false names input head e = absurd cc

pub and_left : (a b : Bool) → (a && b) ≡ true → a ≡ true
and_left true b e = refl
and_left false b e = e

arrow_choice_seen : (test : Bool) (head : ArrowHead) (yield : Option ArrowHead) → (if test then yield else None) ≡ Some head → test ≡ true
arrow_choice_seen true head yield e = refl
arrow_choice_seen false head yield e = absurd cc

behind_arrow_shorter : (names : List Named) (input : List Lexeme) (head : ArrowHead) → behind_arrow names input ≡ Some head → length head.behind < length input
unfolding behind_arrow
behind_arrow_shorter names input head e =
    let is = arrow_choice (sees s.Arrow input && not (newline_at input)) names input head e in
    let seen = and_left (sees s.Arrow input) (not (newline_at input)) (arrow_choice_seen (sees s.Arrow input && not (newline_at input)) head (Some (record { names = names; behind = next input })) e) in
    rw is (sees_shorter input s.Arrow seen (unfold same_sign in refl))

arrow_of_shorter : (outcome : Outcome (List Named)) (limit : ℕ) → ((found : List Named × List Lexeme) → outcome ≡ Ok found → length found.1 ≤ limit) → (head : ArrowHead) → arrow_of outcome ≡ Some head → length head.behind < limit
arrow_of_shorter (Ok found) limit le head e = let shorter = behind_arrow_shorter found.0 found.1 head e in let within = le found refl in omega (arith, shorter, within)
arrow_of_shorter (Err refusal) limit le head e = absurd cc

head_choice : (is_name is_open : Bool) (first second : Option ArrowHead) (limit : ℕ) → ((head : ArrowHead) → first ≡ Some head → length head.behind < limit) → ((head : ArrowHead) → second ≡ Some head → length head.behind < limit) → (head : ArrowHead) → (if is_name then first else (if is_open then second else None)) ≡ Some head → length head.behind < limit
head_choice true is_open first second limit one two = one
head_choice false true first second limit one two = two
head_choice false false first second limit one two = λ head e. absurd cc

pub arrow_head_shorter : (input : List Lexeme) (head : ArrowHead) → arrow_head input ≡ Some head → length head.behind < length input
unfolding arrow_head
arrow_head_shorter input head e =
    head_choice (sees s.Name input) (sees s.OpenParen input) (behind_arrow (named_at input ∷ []) (next input)) (arrow_of (parameters (next input))) (length input)
    (λ head e. let shorter = behind_arrow_shorter (named_at input ∷ []) (next input) head e in omega (arith, shorter, next_le input))
    (arrow_of_shorter (parameters (next input)) (length input) (λ found e. let le = parameters_le (next input) found.1 found.0 e in omega (arith, le, next_le input)))
    head e

of_choice : (test : Bool) (yield head : OfHead) → (if test then Some yield else None) ≡ Some head → head ≡ yield
of_choice true yield head e = cc
of_choice false yield head e = absurd cc

pub of_head_le : (input : List Lexeme) (head : OfHead) → of_head input ≡ Some head → length head.behind ≤ length input
unfolding of_head
of_head_le input head e =
    let is = of_choice ((sees s.Let input || sees s.Const input) && sees s.Name (next input) && is_of (next (next input))) (record { is_constant = sees s.Const input; named = named_at (next input); behind = next (next (next input)) }) head e in
    let behind : head.behind ≡ next (next (next input)) = ap (λ (head : OfHead). head.behind) is in
    rw behind (omega (arith, next_le input, next_le (next input), next_le (next (next input))))

pub lone_name_seen : (input : List Lexeme) → is_lone_name input ≡ true → sees s.Name input ≡ true
unfolding is_lone_name
lone_name_seen input e =
    let tail = not (is_tail (tail_of true (sign_at (next input)))) in
    and_left (sees s.Name input) tail (and_left (sees s.Name input && tail) (not (is_update (postfix_at (next input)))) e)
