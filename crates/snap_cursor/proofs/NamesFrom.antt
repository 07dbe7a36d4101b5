-- The turns of a list of names.
use Rattle.std.proofs.Common.{◌≡◌, ◌==◌, ◌<◌, Bool, true, false, ◌&&◌, ◌||◌, List, [], ◌∷◌, ◌++◌, length, Ok, if◌then◌else◌, refl, arith, rules}
use Rattle.spec_tokens.specs.Tokens.{Lexeme}
use Rattle.snap_ast.specs.declared.part.Named.{Named}
use Rattle.spec_grammar.specs.Outcome.{refuse}
use Rattle.spec_grammar.specs.Parts.{named_at, names_from, is_some}
use Rattle.spec_grammar.specs.Sign.{next, same_sign, sees, sign_at}
use Rattle.spec_grammar.specs.declared.sign.Sign.{Sign}
use Rattle.spec_grammar.specs.declared.sign.Sign.TheVariants as s

-- behind a name
pub names-behind : (close : Sign) (may_lack : Bool) (found : List Named) (input : List Lexeme) → sees close [] ≡ false → names_from close may_lack true found input ≡ (if sees close input then Ok (found, next input) else (if sees s.Comma input then names_from close may_lack false found (next input) else refuse input))
unfolding names_from next sees sign_at same_sign
names-behind close may_lack found [] ends = rw ends refl
names-behind close may_lack found (lexeme ∷ rest) ends = refl

-- where a name may stand
pub names-before : (close : Sign) (may_lack : Bool) (found : List Named) (input : List Lexeme) → sees close [] ≡ false → names_from close may_lack false found input ≡ (if sees s.Name input then names_from close may_lack true (found ++ named_at input ∷ []) (next input) else (if sees close input && (may_lack || is_some found) then Ok (found, next input) else refuse input))
unfolding names_from next sees sign_at same_sign
names-before close may_lack found [] ends = rw ends refl
names-before close may_lack found (lexeme ∷ rest) ends = refl

-- no token is left
pub names-none : (close : Sign) (may_lack is_behind : Bool) (found : List Named) (input : List Lexeme) → (length input == 0) ≡ true → names_from close may_lack is_behind found input ≡ refuse input
unfolding names_from
names-none close may_lack true found [] none = refl
names-none close may_lack false found [] none = refl
names-none close may_lack is_behind found (lexeme ∷ rest) none = absurd (search rules)

-- the next token is taken
pub next-smaller : (input : List Lexeme) → (length input == 0) ≡ false → length (next input) < length input
unfolding next
next-smaller [] some = absurd cc
next-smaller (lexeme ∷ rest) some = omega arith
