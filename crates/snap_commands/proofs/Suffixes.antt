-- What reading leaves is a suffix of what there was.
use Rattle.std.proofs.Common.{◌≡◌, ℕ, Bool, true, false, cond, ◌&&◌, ◌-◌, List, [], ◌∷◌, ◌++◌, Option, Some, None, length, drop, refl, sym, ap, subst, ◌∙◌, append_assoc, arith, length-append}
use Rattle.std.specs.Prelude.{codes}
use Rattle.std.specs.Str.{bytes_eq}
use Rattle.std.proofs.lemmas.List.{drop_at}
use Rattle.spec_tokens.specs.Tokens.{Lexeme}
use Rattle.snap_graph.specs.declared.value.Value.{Value}
use Rattle.snap_commands.specs.Thin.{ThinStatement, Assign, Log, LogGlobal}
use Rattle.snap_commands.specs.ThinSource.{◌>>=◌, argument, assign_statement, closed, expect, free_name, global_name, is_free_name, is_name_token, literal, literal_value, log_statement, thin_statement}

-- the tokens end with these
pub record EndsWith (ls after : List Lexeme) : Type 0 where
  pub front : List Lexeme
  pub parts : ls ≡ front ++ after

ends_with_all : (ls : List Lexeme) → EndsWith ls ls
ends_with_all ls = record { front = []; parts = refl }

ends_with_rest : (l : Lexeme) (ls after : List Lexeme) → EndsWith ls after → EndsWith (l ∷ ls) after
ends_with_rest l ls after h = record { front = l ∷ h.front; parts = ap (λ (x : List Lexeme). l ∷ x) h.parts }

ends_with_then : (a b c : List Lexeme) → EndsWith a b → EndsWith b c → EndsWith a c
ends_with_then a b c p q = record { front = p.front ++ q.front; parts = p.parts ∙ ap (λ (x : List Lexeme). p.front ++ x) q.parts ∙ sym (append_assoc p.front q.front c) }

-- what is left is what comes behind what was taken
pub dropped : (ls after : List Lexeme) → EndsWith ls after → drop (length ls - length after) ls ≡ after
dropped ls after h =
    let len : length ls - length after ≡ length h.front = omega (arith, ap length h.parts, length-append h.front after) in
    rw (len, h.parts) (drop_at h.front after (length h.front) refl)

-- a step that gave something
bind_some : {A B : Type 0} (o : Option A) (f : A → Option B) (y : B) → (o >>= f) ≡ Some y → (x : A) × (o ≡ Some x) × (f x ≡ Some y)
bind_some None f y e = absurd cc
bind_some (Some x) f y e = (x, refl, e)

some_is : {A : Type 0} (x y : A) → Some x ≡ Some y → x ≡ y
some_is x y e = cc

-- a choice that gave something
if_some : {A : Type 0} (b : Bool) (x y : A) → cond b (Some x) None ≡ Some y → x ≡ y
if_some true x y e = cc
if_some false x y e = absurd cc

-- one token before what is left
behind_one : (l : Lexeme) (ls after : List Lexeme) → ls ≡ after → EndsWith (l ∷ ls) after
behind_one l ls after e = subst (λ (x : List Lexeme). EndsWith (l ∷ ls) x) e (ends_with_rest l ls ls (ends_with_all ls))

expect_ends : (text : List ℕ) (ls after : List Lexeme) → expect text ls ≡ Some after → EndsWith ls after
unfolding expect
expect_ends text [] after e = absurd cc
expect_ends text (l ∷ ls) after e = behind_one l ls after (if_some (bytes_eq l.text text) ls after e)

literal_ends : (ls : List Lexeme) (x : Value × List Lexeme) → literal ls ≡ Some x → EndsWith ls x.1
unfolding literal
literal_ends [] x e = absurd cc
literal_ends (l ∷ ls) x e =
    let b = bind_some (literal_value l.kind l.text) (λ value. Some (value, ls)) x e in
    behind_one l ls x.1 (ap (λ (p : Value × List Lexeme). p.1) (some_is (b.0, ls) x b.2))

free_name_ends : (ls : List Lexeme) (x : List ℕ × List Lexeme) → free_name ls ≡ Some x → EndsWith ls x.1
unfolding free_name
free_name_ends [] x e = absurd cc
free_name_ends (l ∷ ls) x e =
    behind_one l ls x.1 (ap (λ (p : List ℕ × List Lexeme). p.1) (if_some (is_name_token l.kind && is_free_name l.text) (l.text, ls) x e))

closed_ends : (ls after : List Lexeme) → closed ls ≡ Some after → EndsWith ls after
unfolding closed
closed_ends ls after e =
    let b = bind_some (expect (codes ")") ls) (λ rest. expect (codes ";") rest) after e in
    ends_with_then ls b.0 after (expect_ends (codes ")") ls b.0 b.1) (expect_ends (codes ";") b.0 after b.2)

global_name_ends : (ls : List Lexeme) (x : List ℕ × List Lexeme) → global_name ls ≡ Some x → EndsWith ls x.1
unfolding global_name
global_name_ends ls x e =
    let b = bind_some (expect (codes "globalThis") ls) (λ rest. expect (codes ".") rest >>= λ more. free_name more) x e in
    let c = bind_some (expect (codes ".") b.0) (λ more. free_name more) x b.2 in
    ends_with_then ls b.0 x.1 (expect_ends (codes "globalThis") ls b.0 b.1)
    (ends_with_then b.0 c.0 x.1 (expect_ends (codes ".") b.0 c.0 c.1) (free_name_ends c.0 x c.2))

-- an argument that is no literal
name_argument_ends : (ls : List Lexeme) (x : ThinStatement × List Lexeme) → (global_name ls >>= λ found. Some (LogGlobal found.0, found.1)) ≡ Some x → EndsWith ls x.1
name_argument_ends ls x e =
    let b = bind_some (global_name ls) (λ found. Some (LogGlobal found.0, found.1)) x e in
    let same = ap (λ (p : ThinStatement × List Lexeme). p.1) (some_is (LogGlobal b.0.0, b.0.1) x b.2) in
    subst (λ (y : List Lexeme). EndsWith ls y) same (global_name_ends ls b.0 b.1)

argument_by : (ls : List Lexeme) (o : Option (Value × List Lexeme)) (x : ThinStatement × List Lexeme) → literal ls ≡ o
    → elim o [ Some found ↦ Some (Log found.0, found.1) | None ↦ global_name ls >>= λ found. Some (LogGlobal found.0, found.1) ] ≡ Some x → EndsWith ls x.1
argument_by ls (Some found) x o-is e =
    let same = ap (λ (p : ThinStatement × List Lexeme). p.1) (some_is (Log found.0, found.1) x e) in
    subst (λ (y : List Lexeme). EndsWith ls y) same (literal_ends ls found o-is)
argument_by ls None x o-is e = name_argument_ends ls x e

argument_ends : (ls : List Lexeme) (x : ThinStatement × List Lexeme) → argument ls ≡ Some x → EndsWith ls x.1
unfolding argument
argument_ends ls x e = argument_by ls (literal ls) x refl e

log_ends : (ls : List Lexeme) (x : ThinStatement × List Lexeme) → log_statement ls ≡ Some x → EndsWith ls x.1
unfolding log_statement
log_ends ls x e =
    let a = bind_some (expect (codes "console") ls) (λ r. expect (codes ".") r >>= λ r. expect (codes "log") r >>= λ r. expect (codes "(") r >>= λ r. argument r >>= λ found. closed found.1 >>= λ r. Some (found.0, r)) x e in
    let b = bind_some (expect (codes ".") a.0) (λ r. expect (codes "log") r >>= λ r. expect (codes "(") r >>= λ r. argument r >>= λ found. closed found.1 >>= λ r. Some (found.0, r)) x a.2 in
    let c = bind_some (expect (codes "log") b.0) (λ r. expect (codes "(") r >>= λ r. argument r >>= λ found. closed found.1 >>= λ r. Some (found.0, r)) x b.2 in
    let d = bind_some (expect (codes "(") c.0) (λ r. argument r >>= λ found. closed found.1 >>= λ r. Some (found.0, r)) x c.2 in
    let f = bind_some (argument d.0) (λ found. closed found.1 >>= λ r. Some (found.0, r)) x d.2 in
    let g = bind_some (closed f.0.1) (λ r. Some (f.0.0, r)) x f.2 in
    let last = subst (λ (y : List Lexeme). EndsWith f.0.1 y) (ap (λ (p : ThinStatement × List Lexeme). p.1) (some_is (f.0.0, g.0) x g.2)) (closed_ends f.0.1 g.0 g.1) in
    ends_with_then ls a.0 x.1 (expect_ends (codes "console") ls a.0 a.1)
    (ends_with_then a.0 b.0 x.1 (expect_ends (codes ".") a.0 b.0 b.1)
    (ends_with_then b.0 c.0 x.1 (expect_ends (codes "log") b.0 c.0 c.1)
    (ends_with_then c.0 d.0 x.1 (expect_ends (codes "(") c.0 d.0 d.1)
    (ends_with_then d.0 f.0.1 x.1 (argument_ends d.0 f.0 f.1) last))))

assign_ends : (ls : List Lexeme) (x : ThinStatement × List Lexeme) → assign_statement ls ≡ Some x → EndsWith ls x.1
unfolding assign_statement
assign_ends ls x e =
    let a = bind_some (global_name ls) (λ name. expect (codes "=") name.1 >>= λ r. literal r >>= λ value. expect (codes ";") value.1 >>= λ r. Some (Assign name.0 value.0, r)) x e in
    let b = bind_some (expect (codes "=") a.0.1) (λ r. literal r >>= λ value. expect (codes ";") value.1 >>= λ r. Some (Assign a.0.0 value.0, r)) x a.2 in
    let c = bind_some (literal b.0) (λ value. expect (codes ";") value.1 >>= λ r. Some (Assign a.0.0 value.0, r)) x b.2 in
    let d = bind_some (expect (codes ";") c.0.1) (λ r. Some (Assign a.0.0 c.0.0, r)) x c.2 in
    let last = subst (λ (y : List Lexeme). EndsWith c.0.1 y) (ap (λ (p : ThinStatement × List Lexeme). p.1) (some_is (Assign a.0.0 c.0.0, d.0) x d.2)) (expect_ends (codes ";") c.0.1 d.0 d.1) in
    ends_with_then ls a.0.1 x.1 (global_name_ends ls a.0 a.1)
    (ends_with_then a.0.1 b.0 x.1 (expect_ends (codes "=") a.0.1 b.0 b.1)
    (ends_with_then b.0 c.0.1 x.1 (literal_ends b.0 c.0 c.1) last))

statement_by : (ls : List Lexeme) (o : Option (ThinStatement × List Lexeme)) (x : ThinStatement × List Lexeme) → log_statement ls ≡ o
    → elim o [ Some found ↦ Some found | None ↦ assign_statement ls ] ≡ Some x → EndsWith ls x.1
statement_by ls (Some found) x o-is e = subst (λ (y : ThinStatement × List Lexeme). EndsWith ls y.1) (some_is found x e) (log_ends ls found o-is)
statement_by ls None x o-is e = assign_ends ls x e

pub statement_ends : (ls : List Lexeme) (x : ThinStatement × List Lexeme) → thin_statement ls ≡ Some x → EndsWith ls x.1
unfolding thin_statement
statement_ends ls x e = statement_by ls (log_statement ls) x refl e
