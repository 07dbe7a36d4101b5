-- Statements, read one after the other, as a loop does.
use Rattle.std.proofs.Common.{◌≡◌, ℕ, suc, ◌-◌, ◌+◌, ◌<◌, List, [], ◌∷◌, ◌++◌, Option, Some, None, length, refl, sym, ap, ◌∙◌, append_assoc, arith}
use Rattle.std.proofs.lemmas.List.{append-nil}
use Rattle.spec_tokens.specs.Tokens.{Lexeme}
use Rattle.snap_commands.specs.Thin.{ThinStatement}
use Rattle.snap_commands.specs.ThinSource.{◌>>=◌, thin_statement, thin_statements}

-- what was read before, and what is still read
abbrev pub with_front : List ThinStatement → Option (List ThinStatement) → Option (List ThinStatement)
with_front front read = read >>= λ others. Some (front ++ others)

regroup : (front : List ThinStatement) (s : ThinStatement) (read : Option (List ThinStatement)) → with_front front (read >>= λ others. Some (s ∷ others)) ≡ with_front (front ++ s ∷ []) read
regroup front s (Some others) = ap (λ (all : List ThinStatement). Some all) (simp append_assoc)
regroup front s None = refl

-- one statement more
pub goes_on : (front : List ThinStatement) (count i : ℕ) (ls after : List Lexeme) (s : ThinStatement) (total : Option (List ThinStatement)) → i < count → 0 < length ls → thin_statement ls ≡ Some (s, after)
    → with_front front (thin_statements (count - i) ls) ≡ total → with_front (front ++ s ∷ []) (thin_statements (count - (i + 1)) after) ≡ total
unfolding thin_statements
goes_on front count i [] after s total lt some h so_far = absurd (omega arith)
goes_on front count i (l ∷ ls) after s total lt some h so_far =
    let k : count - i ≡ suc (count - (i + 1)) = omega arith in
    let one : with_front front (thin_statements (count - i) (l ∷ ls)) ≡ with_front (front ++ s ∷ []) (thin_statements (count - (i + 1)) after) = rw (k, h) (regroup front s (thin_statements (count - (i + 1)) after)) in
    sym one ∙ so_far

-- no statement is there
pub breaks_off : (front : List ThinStatement) (count i : ℕ) (ls : List Lexeme) (total : Option (List ThinStatement)) → i < count → 0 < length ls → thin_statement ls ≡ None
    → with_front front (thin_statements (count - i) ls) ≡ total → total ≡ None
unfolding thin_statements
breaks_off front count i [] total lt some h so_far = absurd (omega arith)
breaks_off front count i (l ∷ ls) total lt some h so_far =
    let k : count - i ≡ suc (count - (i + 1)) = omega arith in
    let one : with_front front (thin_statements (count - i) (l ∷ ls)) ≡ None = rw (k, h) refl in
    sym so_far ∙ one

-- nothing is left
pub is_done : (front : List ThinStatement) (most : ℕ) (total : Option (List ThinStatement)) → with_front front (thin_statements most []) ≡ total → total ≡ Some front
unfolding thin_statements
is_done front most total so_far = sym so_far ∙ ap (λ (all : List ThinStatement). Some all) (append-nil front)

-- something is left, and no more statements are read
pub is_cut : (front : List ThinStatement) (ls : List Lexeme) (total : Option (List ThinStatement)) → 0 < length ls → with_front front (thin_statements 0 ls) ≡ total → total ≡ None
unfolding thin_statements
is_cut front [] total some so_far = absurd (omega arith)
is_cut front (l ∷ ls) total some so_far = sym so_far
