-- Where what is left of the tokens begins.
use Rattle.std.proofs.Common.{◌≡◌, ℕ, ◌-◌, ◌+◌, ◌≤◌, List, Some, None, length, drop, take, sym, ap, subst, ◌∙◌, arith, length-append}
use Rattle.std.proofs.lemmas.List.{drop-drop, drop-map, length-drop, length-map, take_rest}
use Rattle.snap_lex.specs.View.{view, views}
use Rattle.snap_lex.specs.declared.lexer.Token.{Token}
use Rattle.spec_tokens.specs.Tokens.{Lexeme}
use Rattle.snap_commands.specs.Thin.{ThinStatement}
use Rattle.snap_commands.specs.ThinSource.{thin_statement}
use Rattle.snap_commands.proofs.Suffixes.{EndsWith, dropped, statement_ends}

whole : (ts : List Token) (at : ℕ) → views (take (length ts - at) (drop at ts)) ≡ views (drop at ts)
whole ts at = ap views (take_rest ts at)

shorter : (ls after : List Lexeme) → EndsWith ls after → length after ≤ length ls
shorter ls after h = omega (arith, ap length h.parts, length-append h.front after)

pub left_by : (ts bs : List Token) (at : ℕ) (s : ThinStatement) → at ≤ length ts → thin_statement (views (take (length ts - at) (drop at ts))) ≡ Some (s, views bs)
    → (thin_statement (views (drop at ts)) ≡ Some (s, views bs)) × (length bs ≤ length ts) × (views (drop (length ts - length bs) ts) ≡ views bs)
left_by ts bs at s within found =
    let here : thin_statement (views (drop at ts)) ≡ Some (s, views bs) = subst (λ (ls : List Lexeme). thin_statement ls ≡ Some (s, views bs)) (whole ts at) found in
    let ends : EndsWith (views (drop at ts)) (views bs) = statement_ends (views (drop at ts)) (s, views bs) here in
    let short = shorter (views (drop at ts)) (views bs) ends in
    let count : length (views (drop at ts)) ≡ length ts - at = length-map (drop at ts) view ∙ length-drop at ts in
    let count_left : length (views bs) ≡ length bs = length-map bs view in
    let fits : length bs ≤ length ts = omega (arith, short, count, count_left) in
    let step : length ts - length bs ≡ at + (length (views (drop at ts)) - length (views bs)) = omega (arith, short, count, count_left, within) in
    let same : views (drop (length ts - length bs) ts) ≡ drop (length (views (drop at ts)) - length (views bs)) (views (drop at ts)) =
    ap (λ (k : ℕ). views (drop k ts)) step ∙ ap views (sym (drop-drop (length (views (drop at ts)) - length (views bs)) at ts)) ∙ sym (drop-map view (length (views (drop at ts)) - length (views bs)) (drop at ts)) in
    (here, fits, same ∙ dropped (views (drop at ts)) (views bs) ends)

pub none_by : (ts : List Token) (at : ℕ) → thin_statement (views (take (length ts - at) (drop at ts))) ≡ None → thin_statement (views (drop at ts)) ≡ None
none_by ts at found = subst (λ (ls : List Lexeme). thin_statement ls ≡ None) (whole ts at) found

-- how many tokens are left
pub count_left : (ts : List Token) (at : ℕ) → length (views (drop at ts)) ≡ length ts - at
count_left ts at = length-map (drop at ts) view ∙ length-drop at ts
