-- The names that a thin script leaves are free, and no name stands twice.
use Rattle.std.proofs.Common.{◌≡◌, ◌≢◌, ℕ, zero, suc, Bool, true, false, cond, not, ◌&&◌, subst, List, [], ◌∷◌, ◌++◌, Option, Some, None, Result, Ok, Err, length, map, refl, sym, ap}
use Rattle.std.specs.Prelude.{◌||◌, codes, nat_le, All, AllPairs}
use Rattle.std.specs.List.{AllByRecursion, IsDistinct, list_any}
use Rattle.std.specs.Str.{bytes_eq}
use Rattle.std.proofs.lemmas.Bool.{and_parts, not-true}
use Rattle.std.proofs.lemmas.List.Elements.{All-from_recursion}
use Rattle.std.proofs.lemmas.Map.Keys.{IsDistinct-cons, IsDistinct-head, IsDistinct-tail}
use Rattle.std.proofs.lemmas.Map.Made.{AllPairs-from_IsDistinct}
use Rattle.std.proofs.lemmas.Slice.Eq.{bytes_eq-Decides}
use Rattle.snap_base.specs.declared.limits.TheConstants.{MOST_SOURCE_BYTES}
use Rattle.spec_tokens.specs.Tokens.{Lexeme, lexemes}
use Rattle.spec_tokens.specs.declared.fault.LexFault.{LexFault}
use Rattle.snap_graph.specs.declared.value.Value.{Value}
use Rattle.snap_commands.specs.Properties.{properties_of, property_of}
use Rattle.snap_commands.specs.Thin.{Globals, ThinStatement, Assign, Log, LogGlobal, assigned, leaves}
use Rattle.snap_commands.specs.ThinSource.{◌>>=◌, argument, assign_statement, closed, expect, free_name, global_name, is_free_name, is_name_token, literal, log_statement, own_names, parts_by_blanks, special_names, statements_of, thin_script, thin_statement, thin_statements}
use Rattle.snap_commands.proofs.Steps.{bind_gave, if_gave, some_gave}

-- a statement that sets a name sets a free one
abbrev pub SetsFree : ThinStatement → Type 0
SetsFree (Log value) = Unit {0}
SetsFree (LogGlobal name) = Unit {0}
SetsFree (Assign name value) = is_free_name name ≡ true

-- the name of a global is free
abbrev pub HasFreeName : List ℕ × Value → Type 0
HasFreeName global = is_free_name global.0 ≡ true

-- ---- what a script sets

name_is_free : (ls : List Lexeme) (x : List ℕ × List Lexeme) → free_name ls ≡ Some x → is_free_name x.0 ≡ true
unfolding free_name
name_is_free [] x e = absurd cc
name_is_free (l ∷ ls) x e =
    let h = if_gave (is_name_token l.kind && is_free_name l.text) (Some (l.text, ls)) x e in
    subst (λ (y : List ℕ × List Lexeme). is_free_name y.0 ≡ true) (some_gave (l.text, ls) x h.1) (and_parts (is_name_token l.kind) (is_free_name l.text) h.0).1

global_is_free : (ls : List Lexeme) (x : List ℕ × List Lexeme) → global_name ls ≡ Some x → is_free_name x.0 ≡ true
unfolding global_name
global_is_free ls x e =
    let b = bind_gave (expect (codes "globalThis") ls) (λ rest. expect (codes ".") rest >>= λ more. free_name more) x e in
    let c = bind_gave (expect (codes ".") b.0) (λ more. free_name more) x b.2 in
    name_is_free c.0 x c.2

argument_by : (ls : List Lexeme) (o : Option (Value × List Lexeme)) (x : ThinStatement × List Lexeme)
    → elim o [ Some found ↦ Some (Log found.0, found.1) | None ↦ global_name ls >>= λ found. Some (LogGlobal found.0, found.1) ] ≡ Some x → SetsFree x.0
argument_by ls (Some found) x e = subst (λ (y : ThinStatement × List Lexeme). SetsFree y.0) (some_gave (Log found.0, found.1) x e) tt
argument_by ls None x e =
    let b = bind_gave (global_name ls) (λ found. Some (LogGlobal found.0, found.1)) x e in
    subst (λ (y : ThinStatement × List Lexeme). SetsFree y.0) (some_gave (LogGlobal b.0.0, b.0.1) x b.2) tt

argument_sets_free : (ls : List Lexeme) (x : ThinStatement × List Lexeme) → argument ls ≡ Some x → SetsFree x.0
unfolding argument
argument_sets_free ls x e = argument_by ls (literal ls) x e

log_sets_free : (ls : List Lexeme) (x : ThinStatement × List Lexeme) → log_statement ls ≡ Some x → SetsFree x.0
unfolding log_statement
log_sets_free ls x e =
    let a = bind_gave (expect (codes "console") ls) (λ r. expect (codes ".") r >>= λ r. expect (codes "log") r >>= λ r. expect (codes "(") r >>= λ r. argument r >>= λ found. closed found.1 >>= λ r. Some (found.0, r)) x e in
    let b = bind_gave (expect (codes ".") a.0) (λ r. expect (codes "log") r >>= λ r. expect (codes "(") r >>= λ r. argument r >>= λ found. closed found.1 >>= λ r. Some (found.0, r)) x a.2 in
    let c = bind_gave (expect (codes "log") b.0) (λ r. expect (codes "(") r >>= λ r. argument r >>= λ found. closed found.1 >>= λ r. Some (found.0, r)) x b.2 in
    let d = bind_gave (expect (codes "(") c.0) (λ r. argument r >>= λ found. closed found.1 >>= λ r. Some (found.0, r)) x c.2 in
    let f = bind_gave (argument d.0) (λ found. closed found.1 >>= λ r. Some (found.0, r)) x d.2 in
    let g = bind_gave (closed f.0.1) (λ r. Some (f.0.0, r)) x f.2 in
    subst (λ (y : ThinStatement × List Lexeme). SetsFree y.0) (some_gave (f.0.0, g.0) x g.2) (argument_sets_free d.0 f.0 f.1)

assign_sets_free : (ls : List Lexeme) (x : ThinStatement × List Lexeme) → assign_statement ls ≡ Some x → SetsFree x.0
unfolding assign_statement
assign_sets_free ls x e =
    let a = bind_gave (global_name ls) (λ name. expect (codes "=") name.1 >>= λ r. literal r >>= λ value. expect (codes ";") value.1 >>= λ r. Some (Assign name.0 value.0, r)) x e in
    let b = bind_gave (expect (codes "=") a.0.1) (λ r. literal r >>= λ value. expect (codes ";") value.1 >>= λ r. Some (Assign a.0.0 value.0, r)) x a.2 in
    let c = bind_gave (literal b.0) (λ value. expect (codes ";") value.1 >>= λ r. Some (Assign a.0.0 value.0, r)) x b.2 in
    let d = bind_gave (expect (codes ";") c.0.1) (λ r. Some (Assign a.0.0 c.0.0, r)) x c.2 in
    subst (λ (y : ThinStatement × List Lexeme). SetsFree y.0) (some_gave (Assign a.0.0 c.0.0, d.0) x d.2) (global_is_free ls a.0 a.1)

statement_by : (ls : List Lexeme) (o : Option (ThinStatement × List Lexeme)) (x : ThinStatement × List Lexeme) → log_statement ls ≡ o
    → elim o [ Some found ↦ Some found | None ↦ assign_statement ls ] ≡ Some x → SetsFree x.0
statement_by ls (Some found) x o-is e = subst (λ (y : ThinStatement × List Lexeme). SetsFree y.0) (some_gave found x e) (log_sets_free ls found o-is)
statement_by ls None x o-is e = assign_sets_free ls x e

statement_sets_free : (ls : List Lexeme) (x : ThinStatement × List Lexeme) → thin_statement ls ≡ Some x → SetsFree x.0
unfolding thin_statement
statement_sets_free ls x e = statement_by ls (log_statement ls) x refl e

statements_set_free : (most : ℕ) (ls : List Lexeme) (ss : List ThinStatement) → thin_statements most ls ≡ Some ss → AllByRecursion SetsFree ss
unfolding thin_statements
statements_set_free most [] ss e = subst (AllByRecursion SetsFree) (some_gave [] ss e) tt
statements_set_free zero (l ∷ ls) ss e = absurd cc
statements_set_free (suc most) (l ∷ ls) ss e =
    let a = bind_gave (thin_statement (l ∷ ls)) (λ found. thin_statements most found.1 >>= λ others. Some (found.0 ∷ others)) ss e in
    let b = bind_gave (thin_statements most a.0.1) (λ others. Some (a.0.0 ∷ others)) ss a.2 in
    let first = statement_sets_free (l ∷ ls) a.0 a.1 in
    let rest = statements_set_free most a.0.1 b.0 b.1 in
    subst (AllByRecursion SetsFree) (some_gave (a.0.0 ∷ b.0) ss b.2) (first, rest)

tokens_set_free : (source : List ℕ) (ls : List Lexeme) (ss : List ThinStatement) → statements_of source ls ≡ Some ss → AllByRecursion SetsFree ss
unfolding statements_of
tokens_set_free source ls ss e =
    let h = if_gave (parts_by_blanks source 0 ls) (thin_statements (length ls) ls) ss e in
    statements_set_free (length ls) ls ss h.1

script_by : (source : List ℕ) (r : Result (List Lexeme) LexFault) (ss : List ThinStatement) → elim r [ Ok ls ↦ statements_of source ls | Err fault ↦ None ] ≡ Some ss → AllByRecursion SetsFree ss
script_by source (Ok ls) ss e = tokens_set_free source ls ss e
script_by source (Err fault) ss e = absurd cc

script_sets_free : (source : List ℕ) (ss : List ThinStatement) → thin_script source ≡ Some ss → AllByRecursion SetsFree ss
unfolding thin_script
script_sets_free source ss e =
    let h = if_gave (nat_le (length source) MOST_SOURCE_BYTES) (elim (lexemes source) [ Ok ls ↦ statements_of source ls | Err fault ↦ None ]) ss e in
    script_by source (lexemes source) ss h.1

-- each name that a thin script sets is free
pub names_free : (source : List ℕ) (ss : List ThinStatement) → thin_script source ≡ Some ss → All SetsFree ss
names_free source ss e = All-from_recursion SetsFree ss (script_sets_free source ss e)

-- ---- what a script leaves

assigned_free : (globals : Globals) (name : List ℕ) (v : Value) → is_free_name name ≡ true → AllByRecursion HasFreeName globals → AllByRecursion HasFreeName (assigned globals name v)
assigned_free [] name v free are = (free, tt)
assigned_free (global ∷ globals) name v free are =
    let more = assigned_free globals name v free are.1 in
    elim (bytes_eq name global.0) as (λ b. AllByRecursion HasFreeName (cond b ((global.0, v) ∷ globals) (global ∷ assigned globals name v))) [
      | true ↦ (are.0, are.1)
      | false ↦ (are.0, more)
    ]

leaves_free : (ss : List ThinStatement) (globals : Globals) → AllByRecursion SetsFree ss → AllByRecursion HasFreeName globals → AllByRecursion HasFreeName (leaves ss globals)
leaves_free [] globals set are = are
leaves_free (Log value ∷ ss) globals set are = leaves_free ss globals set.1 are
leaves_free (LogGlobal name ∷ ss) globals set are = leaves_free ss globals set.1 are
leaves_free (Assign name value ∷ ss) globals set are = leaves_free ss (assigned globals name value) set.1 (assigned_free globals name value set.0 are)

script_leaves_free : (source : List ℕ) (ss : List ThinStatement) → thin_script source ≡ Some ss → AllByRecursion HasFreeName (leaves ss [])
script_leaves_free source ss e = leaves_free ss [] (script_sets_free source ss e) tt

-- each name that a thin script leaves is free
pub left_free : (source : List ℕ) (ss : List ThinStatement) → thin_script source ≡ Some ss → All (λ global. is_free_name global.0 ≡ true) (leaves ss [])
left_free source ss e = All-from_recursion HasFreeName (leaves ss []) (script_leaves_free source ss e)

-- ---- no name stands twice

abbrev name_of : List ℕ × Value → List ℕ
name_of global = global.0

-- a name is none of some others
abbrev IsNoneOf : List ℕ → List (List ℕ) → Type 0
IsNoneOf name others = AllByRecursion (λ other. bytes_eq name other ≡ false) others

turned_by : (r : Bool) (a b : List ℕ) → bytes_eq b a ≡ r → bytes_eq a b ≡ false → r ≡ false
turned_by false a b r-is apart = refl
turned_by true a b r-is apart =
    let same : bytes_eq a b ≡ true = (bytes_eq-Decides a b).1 (sym ((bytes_eq-Decides b a).0 r-is)) in
    absurd cc

-- names that differ do so the other way round
turned : (a b : List ℕ) → bytes_eq a b ≡ false → bytes_eq b a ≡ false
turned a b apart = turned_by (bytes_eq b a) a b refl apart

-- a name stays apart from the others where one is assigned that it differs from
assigned_apart : (globals : Globals) (one name : List ℕ) (v : Value) → bytes_eq one name ≡ false → IsNoneOf one (map name_of globals) → IsNoneOf one (map name_of (assigned globals name v))
assigned_apart [] one name v apart are = (apart, tt)
assigned_apart (global ∷ globals) one name v apart are =
    let more = assigned_apart globals one name v apart are.1 in
    elim (bytes_eq name global.0) as (λ b. IsNoneOf one (map name_of (cond b ((global.0, v) ∷ globals) (global ∷ assigned globals name v)))) [
      | true ↦ (are.0, are.1)
      | false ↦ (are.0, more)
    ]

assigned_by : (b : Bool) (global : List ℕ × Value) (globals : Globals) (name : List ℕ) (v : Value) → bytes_eq name global.0 ≡ b → IsDistinct bytes_eq (global.0 ∷ map name_of globals) → IsDistinct bytes_eq (map name_of (assigned globals name v))
    → IsDistinct bytes_eq (map name_of (cond b ((global.0, v) ∷ globals) (global ∷ assigned globals name v)))
assigned_by true global globals name v b-is are more = are
assigned_by false global globals name v b-is are more =
    let apart = assigned_apart globals global.0 name v (turned name global.0 b-is) (IsDistinct-head bytes_eq global.0 (map name_of globals) are) in
    IsDistinct-cons bytes_eq global.0 (map name_of (assigned globals name v)) apart more

assigned_distinct : (globals : Globals) (name : List ℕ) (v : Value) → IsDistinct bytes_eq (map name_of globals) → IsDistinct bytes_eq (map name_of (assigned globals name v))
unfolding IsDistinct
assigned_distinct [] name v are = (tt, tt)
assigned_distinct (global ∷ globals) name v are =
    let more = assigned_distinct globals name v (IsDistinct-tail bytes_eq global.0 (map name_of globals) are) in
    assigned_by (bytes_eq name global.0) global globals name v refl are more

leaves_distinct : (ss : List ThinStatement) (globals : Globals) → IsDistinct bytes_eq (map name_of globals) → IsDistinct bytes_eq (map name_of (leaves ss globals))
leaves_distinct [] globals are = are
leaves_distinct (Log value ∷ ss) globals are = leaves_distinct ss globals are
leaves_distinct (LogGlobal name ∷ ss) globals are = leaves_distinct ss globals are
leaves_distinct (Assign name value ∷ ss) globals are = leaves_distinct ss (assigned globals name value) (assigned_distinct globals name value are)

none_distinct : IsDistinct bytes_eq []
unfolding IsDistinct
none_distinct = tt

-- names that are found to differ
abbrev differ : List (List ℕ) → Bool
differ [] = true
differ (name ∷ names) = not (list_any (bytes_eq name) names) && differ names

none_by : (b : Bool) (name other : List ℕ) (others : List (List ℕ)) → bytes_eq name other ≡ b → (b || list_any (bytes_eq name) others) ≡ false → (list_any (bytes_eq name) others ≡ false → IsNoneOf name others) → IsNoneOf name (other ∷ others)
none_by true name other others b-is e more = absurd cc
none_by false name other others b-is e more = (b-is, more e)

none_by_test : (name : List ℕ) (others : List (List ℕ)) → list_any (bytes_eq name) others ≡ false → IsNoneOf name others
none_by_test name [] e = tt
none_by_test name (other ∷ others) e = none_by (bytes_eq name other) name other others refl e (none_by_test name others)

distinct_by_test : (names : List (List ℕ)) → differ names ≡ true → IsDistinct bytes_eq names
distinct_by_test [] e = none_distinct
distinct_by_test (name ∷ names) e =
    let parts = and_parts (not (list_any (bytes_eq name) names)) (differ names) e in
    IsDistinct-cons bytes_eq name names (none_by_test name names (not-true (list_any (bytes_eq name) names) parts.0)) (distinct_by_test names parts.1)

own_distinct : IsDistinct bytes_eq own_names
own_distinct = distinct_by_test own_names refl

-- a name is none of those that are none of some others with it among them
first_apart : (one : List ℕ) (ones names : List (List ℕ)) → IsNoneOf one ones → AllByRecursion (λ name. IsNoneOf name (one ∷ ones)) names → IsNoneOf one names
first_apart one ones [] apart are = tt
first_apart one ones (name ∷ names) apart are = (turned name one are.0.0, first_apart one ones names apart are.1)

none_of_both : (one : List ℕ) (ones names : List (List ℕ)) → IsNoneOf one ones → IsNoneOf one names → IsNoneOf one (ones ++ names)
none_of_both one [] names apart are = are
none_of_both one (other ∷ ones) names apart are = (apart.0, none_of_both one ones names apart.1 are)

none_of_rest : (one : List ℕ) (ones names : List (List ℕ)) → AllByRecursion (λ name. IsNoneOf name (one ∷ ones)) names → AllByRecursion (λ name. IsNoneOf name ones) names
none_of_rest one ones [] are = tt
none_of_rest one ones (name ∷ names) are = (are.0.1, none_of_rest one ones names are.1)

-- names that differ, behind others that differ from them
both_distinct : (ones names : List (List ℕ)) → IsDistinct bytes_eq ones → AllByRecursion (λ name. IsNoneOf name ones) names → IsDistinct bytes_eq names → IsDistinct bytes_eq (ones ++ names)
both_distinct [] names own are others = others
both_distinct (one ∷ ones) names own are others =
    let apart = IsDistinct-head bytes_eq one ones own in
    IsDistinct-cons bytes_eq one (ones ++ names) (none_of_both one ones names apart (first_apart one ones names apart are))
    (both_distinct ones names (IsDistinct-tail bytes_eq one ones own) (none_of_rest one ones names are) others)

free_is_not_own : (name : List ℕ) → is_free_name name ≡ true → IsNoneOf name own_names
unfolding is_free_name
free_is_not_own name free =
    let parts = and_parts (not (list_any (bytes_eq name) own_names)) (not (list_any (bytes_eq name) special_names)) free in
    none_by_test name own_names (not-true (list_any (bytes_eq name) own_names) parts.0)

free_are_not_own : (globals : Globals) → AllByRecursion HasFreeName globals → AllByRecursion (λ name. IsNoneOf name own_names) (map name_of globals)
free_are_not_own [] are = tt
free_are_not_own (global ∷ globals) are = (free_is_not_own global.0 are.0, free_are_not_own globals are.1)

keys_are : (globals : Globals) → map (λ p. p.key) (map property_of globals) ≡ map name_of globals
keys_are [] = refl
keys_are (global ∷ globals) = ap (λ (names : List (List ℕ)). global.0 ∷ names) (keys_are globals)

-- the keys of a global object: its own names, and then those of its globals
pub keys_of_object : (globals : Globals) → map (λ p. p.key) (properties_of globals) ≡ own_names ++ map (λ g. g.0) globals
keys_of_object globals = ap (λ (names : List (List ℕ)). own_names ++ names) (keys_are globals)

-- the keys of what a thin script leaves are distinct
pub left_distinct : (source : List ℕ) (ss : List ThinStatement) → thin_script source ≡ Some ss → IsDistinct bytes_eq (map (λ p. p.key) (properties_of (leaves ss [])))
left_distinct source ss e =
    subst (IsDistinct bytes_eq) (sym (keys_of_object (leaves ss [])))
    (both_distinct own_names (map name_of (leaves ss [])) own_distinct (free_are_not_own (leaves ss []) (script_leaves_free source ss e)) (leaves_distinct ss [] none_distinct))

-- no name stands twice in what a thin script leaves
pub left_apart : (source : List ℕ) (ss : List ThinStatement) → thin_script source ≡ Some ss → AllPairs (λ one other. one ≢ other) (map (λ p. p.key) (properties_of (leaves ss [])))
left_apart source ss e = AllPairs-from_IsDistinct bytes_eq-Decides (map (λ p. p.key) (properties_of (leaves ss []))) (left_distinct source ss e)
