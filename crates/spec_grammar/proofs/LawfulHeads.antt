-- Lists of names, the heads of arrows and loops and the ends of statements, which are taken from right tokens.
use Rattle.std.proofs.Common.{◌≡◌, Bool, true, false, not, ◌&&◌, ◌||◌, List, [], ◌∷◌, ◌++◌, refl, subst, if◌then◌else◌}
use Rattle.std.specs.Prelude.{Option, Some, None, Ok, Err}
use Rattle.snap_ast.specs.Words.{Each, IsNamed, IsSome}
use Rattle.snap_ast.specs.declared.part.Named.{Named}
use Rattle.spec_grammar.proofs.LawfulTokens.{AreRight}
use Rattle.spec_grammar.specs.Outcome.{Outcome, refuse}
use Rattle.spec_grammar.specs.Parts.{ArrowHead, arrow_head, arrow_of, behind_arrow, ends_line, is_of, is_some, named_at, names_from, OfHead, of_head, parameters, pattern, semicolon}
use Rattle.spec_grammar.specs.Sign.{newline_at, next, sees}
use Rattle.spec_grammar.specs.declared.sign.Sign.{Sign}
use Rattle.spec_grammar.specs.declared.sign.Sign.TheVariants as s
use Rattle.spec_tokens.specs.Tokens.{Lexeme}
use Rattle.spec_grammar.proofs.LawfulWords.{named_right, next_right}

-- names and what stands behind them, some of which there are where none may lack
abbrev AreNames : Bool → Outcome (List Named) → Type 0
AreNames may_lack (Ok found) = Each IsNamed found.0 × AreRight found.1 × (may_lack ≡ false → IsSome found.0)
AreNames may_lack (Err refusal) = Unit {0}

names_if : (may_lack test : Bool) (one other : Outcome (List Named)) → (test ≡ true → AreNames may_lack one) → AreNames may_lack other → AreNames may_lack (if test then one else other)
names_if may_lack true one other is is_other = is refl
names_if may_lack false one other is is_other = is_other

pub each_more : {A : Type 0} (P : A → Type 0) (items : List A) (item : A) → Each P items → P item → Each P (items ++ item ∷ [])
each_more P [] item each is = (is, tt)
each_more P (first ∷ items) item each is = (each.0, each_more P items item each.1 is)

pub some_more : {A : Type 0} (items : List A) (item : A) → IsSome (items ++ item ∷ [])
some_more [] item = tt
some_more (first ∷ items) item = tt

some_is : (names : List Named) (test may_lack : Bool) → (test && (may_lack || is_some names)) ≡ true → may_lack ≡ false → IsSome names
some_is names false may_lack e none = absurd cc
some_is names true true e none = absurd cc
some_is [] true false e none = absurd cc
some_is (named ∷ names) true false e none = tt

names_right : (close : Sign) (may_lack is_behind : Bool) (names : List Named) (input : List Lexeme) → AreRight input → Each IsNamed names → (is_behind ≡ true → IsSome names) → AreNames may_lack (names_from close may_lack is_behind names input)
unfolding names_from
names_right close may_lack true names [] right each some = tt
names_right close may_lack false names [] right each some = tt
names_right close may_lack true names (token ∷ rest) right each some =
    let behind : AreRight rest = record { each = right.each.1 } in
    names_if may_lack (sees close (token ∷ rest)) (Ok (names, rest)) (if sees s.Comma (token ∷ rest) then names_from close may_lack false names rest else refuse (token ∷ rest)) (λ e. (each, behind, λ e. some refl))
    (names_if may_lack (sees s.Comma (token ∷ rest)) (names_from close may_lack false names rest) (refuse (token ∷ rest)) (λ e. names_right close may_lack false names rest behind each (λ e. absurd cc)) tt)
names_right close may_lack false names (token ∷ rest) right each some =
    let behind : AreRight rest = record { each = right.each.1 } in
    let named = named_at (token ∷ rest) in
    let closes = sees close (token ∷ rest) && (may_lack || is_some names) in
    names_if may_lack (sees s.Name (token ∷ rest)) (names_from close may_lack true (names ++ named ∷ []) rest) (if closes then Ok (names, rest) else refuse (token ∷ rest))
    (λ e. names_right close may_lack true (names ++ named ∷ []) rest behind (each_more IsNamed names named each (named_right (token ∷ rest) right e)) (λ e. some_more names named))
    (names_if may_lack closes (Ok (names, rest)) (refuse (token ∷ rest)) (λ e. (each, behind, some_is names (sees close (token ∷ rest)) may_lack e)) tt)

pub parameters_right : (input rest : List Lexeme) (names : List Named) → AreRight input → parameters input ≡ Ok (names, rest) → Each IsNamed names × AreRight rest
unfolding parameters
parameters_right input rest names right e = let are = subst (AreNames true) e (names_right s.CloseParen true false [] input right tt (λ e. absurd cc)) in (are.0, are.1)

pub pattern_right : (input rest : List Lexeme) (names : List Named) → AreRight input → pattern input ≡ Ok (names, rest) → Each IsNamed names × IsSome names × AreRight rest
unfolding pattern
pattern_right input rest names right e = let are = subst (AreNames false) e (names_right s.CloseCurly false false [] input right tt (λ e. absurd cc)) in (are.0, are.2 refl, are.1)

-- ---- heads

abbrev IsArrow : Option ArrowHead → Type 0
IsArrow None = Unit {0}
IsArrow (Some head) = Each IsNamed head.names × AreRight head.behind

arrow_if : (test : Bool) (one other : Option ArrowHead) → (test ≡ true → IsArrow one) → IsArrow other → IsArrow (if test then one else other)
arrow_if true one other is is_other = is refl
arrow_if false one other is is_other = is_other

behind_right : (names : List Named) (input : List Lexeme) → Each IsNamed names → AreRight input → IsArrow (behind_arrow names input)
unfolding behind_arrow
behind_right names input each right = arrow_if (sees s.Arrow input && not (newline_at input)) (Some (record { names = names; behind = next input })) None (λ e. (each, next_right input right)) tt

arrow_of_right : (outcome : Outcome (List Named)) → AreNames true outcome → IsArrow (arrow_of outcome)
arrow_of_right (Ok found) are = behind_right found.0 found.1 are.0 are.1
arrow_of_right (Err refusal) are = tt

pub arrow_right : (input : List Lexeme) (head : ArrowHead) → AreRight input → arrow_head input ≡ Some head → Each IsNamed head.names × AreRight head.behind
unfolding arrow_head parameters
arrow_right input head right e =
    let named = named_at input in
    let listed : Option ArrowHead = if sees s.OpenParen input then arrow_of (parameters (next input)) else None in
    let is : IsArrow (if sees s.Name input then behind_arrow (named ∷ []) (next input) else listed) =
    arrow_if (sees s.Name input) (behind_arrow (named ∷ []) (next input)) listed (λ e. behind_right (named ∷ []) (next input) (named_right input right e, tt) (next_right input right))
    (arrow_if (sees s.OpenParen input) (arrow_of (parameters (next input))) None (λ e. arrow_of_right (parameters (next input)) (names_right s.CloseParen true false [] (next input) (next_right input right) tt (λ e. absurd cc))) tt) in
    subst IsArrow e is

abbrev IsLoop : Option OfHead → Type 0
IsLoop None = Unit {0}
IsLoop (Some head) = IsNamed head.named × AreRight head.behind

loop_if : (test : Bool) (head : OfHead) → (test ≡ true → IsLoop (Some head)) → IsLoop (if test then Some head else None)
loop_if true head is = is refl
loop_if false head is = tt

middle_holds : (first second third : Bool) → (first && second && third) ≡ true → second ≡ true
middle_holds true true third e = refl
middle_holds true false third e = absurd cc
middle_holds false second third e = absurd cc

pub of_head_right : (input : List Lexeme) (head : OfHead) → AreRight input → of_head input ≡ Some head → IsNamed head.named × AreRight head.behind
unfolding of_head
of_head_right input head right e =
    let name = next_right input right in
    let behind = next_right (next (next input)) (next_right (next input) name) in
    let found : OfHead = record { is_constant = sees s.Const input; named = named_at (next input); behind = next (next (next input)) } in
    let declares = sees s.Let input || sees s.Const input in
    subst IsLoop e (loop_if (declares && sees s.Name (next input) && is_of (next (next input))) found
    (λ e. (named_right (next input) name (middle_holds declares (sees s.Name (next input)) (is_of (next (next input))) e), behind)))

-- ---- the end of a statement

abbrev IsBehind : Outcome (Unit {0}) → Type 0
IsBehind (Ok found) = AreRight found.1
IsBehind (Err refusal) = Unit {0}

behind_if : (test : Bool) (one other : Outcome (Unit {0})) → IsBehind one → IsBehind other → IsBehind (if test then one else other)
behind_if true one other is is_other = is
behind_if false one other is is_other = is_other

pub semicolon_right : (input rest : List Lexeme) → AreRight input → semicolon input ≡ Ok (tt, rest) → AreRight rest
unfolding semicolon
semicolon_right input rest right e =
    subst IsBehind e (behind_if (sees s.Semicolon input) (Ok (tt, next input)) (if ends_line input then Ok (tt, input) else refuse input) (next_right input right)
    (behind_if (ends_line input) (Ok (tt, input)) (refuse input) right tt))
