-- The texts of what a thin script leaves are together no longer than the script.
use Rattle.std.proofs.Common.{◌≡◌, ℕ, zero, suc, ◌-◌, ◌+◌, ◌≤◌, Bool, true, false, cond, subst, List, [], ◌∷◌, ◌++◌, Option, Some, None, Result, Ok, Err, length, drop, map, refl, sym, ap, ◌∙◌, arith, length-append}
use Rattle.std.specs.Prelude.{◌&&◌, ◌==◌, codes, nat_le, pos, slice_range}
use Rattle.std.specs.List.{list_all, list_any}
use Rattle.std.specs.Str.{bytes_eq}
use Rattle.std.proofs.lemmas.Bool.{leb-true}
use Rattle.std.proofs.lemmas.List.{length-drop, length-take, length-map}
use Rattle.std.proofs.lemmas.Slice.Eq.{bytes_eq-Decides}
use Rattle.snap_base.specs.declared.limits.TheConstants.{MOST_SOURCE_BYTES}
use Rattle.spec_tokens.proofs.Lengths.{text_total, text_total-append, texts_fit_source}
use Rattle.spec_tokens.specs.Tokens.{Lexeme, lexemes}
use Rattle.spec_tokens.specs.Byte.{is_digit}
use Rattle.spec_tokens.specs.Number.{largest, number_value}
use Rattle.spec_tokens.specs.declared.fault.LexFault.{LexFault}
use Rattle.spec_tokens.specs.declared.piece.TokenKind.{TokenKind}
use Rattle.spec_tokens.specs.declared.piece.TokenKind.TheVariants as kind
use Rattle.snap_graph.specs.declared.value.Property.{Property}
use Rattle.snap_graph.specs.declared.value.Value.{Value}
use Rattle.snap_graph.specs.declared.value.Value.TheVariants as value
use Rattle.snap_commands.specs.Strings.{mass}
use Rattle.snap_commands.specs.Properties.{own_properties, properties_of, property_of, texts_of, value_texts}
use Rattle.snap_commands.specs.Thin.{Globals, ThinStatement, Assign, Log, LogGlobal, assigned, leaves}
use Rattle.snap_commands.specs.ThinSource.{◌>>=◌, argument, assign_statement, closed, decimal_value, expect, free_name, global_name, is_free_name, is_name_token, literal, literal_value, log_statement, parts_by_blanks, plain_text_value, statements_of, thin_script, thin_statement, thin_statements, word_value}
use Rattle.snap_commands.proofs.Steps.{bind_gave, if_gave, some_gave, unless_gave}
use Rattle.snap_commands.proofs.Suffixes.{EndsWith, statement_ends}

-- how much a value holds
abbrev pub value_mass : Value → ℕ
value_mass value.Undefined = 0
value_mass value.Null = 0
value_mass (value.Bool b) = 0
value_mass (value.Int z) = 0
value_mass (value.Text text) = suc (length text)
value_mass (value.Node node) = 0
value_mass value.Empty = 0

-- how much a global holds: its name and its value
abbrev pub global_mass : List ℕ × Value → ℕ
global_mass global = suc (length global.0) + value_mass global.1

abbrev pub globals_mass : Globals → ℕ
globals_mass [] = 0
globals_mass (global ∷ globals) = global_mass global + globals_mass globals

-- how much a statement sets
abbrev pub statement_mass : ThinStatement → ℕ
statement_mass (Log value) = 0
statement_mass (LogGlobal name) = 0
statement_mass (Assign name value) = global_mass (name, value)

abbrev pub script_mass : List ThinStatement → ℕ
script_mass [] = 0
script_mass (s ∷ ss) = statement_mass s + script_mass ss

-- ---- what a script sets

-- a token that was passed
expect_fits : (text : List ℕ) (ls after : List Lexeme) → expect text ls ≡ Some after → text_total ls ≡ length text + text_total after
unfolding expect
expect_fits text [] after e = absurd cc
expect_fits text (l ∷ ls) after e =
    let h = if_gave (bytes_eq l.text text) (Some ls) after e in
    let same : l.text ≡ text = (bytes_eq-Decides l.text text).0 h.0 in
    let left : ls ≡ after = some_gave ls after h.1 in
    omega (arith, ap length same, ap text_total left)

word_by : (a b c d : Bool) (v : Value) → cond a (Some (value.Bool true)) (cond b (Some (value.Bool false)) (cond c (Some value.Null) (cond d (Some value.Undefined) None))) ≡ Some v → value_mass v ≡ 0
word_by true b c d v e = sym (ap value_mass (some_gave (value.Bool true) v e))
word_by false true c d v e = sym (ap value_mass (some_gave (value.Bool false) v e))
word_by false false true d v e = sym (ap value_mass (some_gave value.Null v e))
word_by false false false true v e = sym (ap value_mass (some_gave value.Undefined v e))
word_by false false false false v e = absurd cc

word_fits : (text : List ℕ) (v : Value) → word_value text ≡ Some v → value_mass v ≤ suc (length text)
unfolding word_value
word_fits text v e =
    let none = word_by (bytes_eq text (codes "true")) (bytes_eq text (codes "false")) (bytes_eq text (codes "null")) (bytes_eq text (codes "undefined")) v e in
    omega (arith, none)

decimal_fits : (text : List ℕ) (v : Value) → decimal_value text ≡ Some v → value_mass v ≤ suc (length text)
unfolding decimal_value
decimal_fits text v e =
    let h = if_gave (list_all is_digit text && nat_le (number_value text) largest) (Some (value.Int (pos (number_value text)))) v e in
    let none : 0 ≡ value_mass v = ap value_mass (some_gave (value.Int (pos (number_value text))) v h.1) in
    omega (arith, none)

plain_fits : (text : List ℕ) (v : Value) → plain_text_value text ≡ Some v → value_mass v ≤ suc (length text)
unfolding plain_text_value
plain_fits text v e =
    let units = slice_range text 1 (length text - 1) in
    let h = unless_gave (list_any (λ b. b == 92) text) (Some (value.Text units)) v e in
    let same : suc (length units) ≡ value_mass v = ap value_mass (some_gave (value.Text units) v h) in
    let len : length units ≤ length text = omega (arith, length-take (length text - 1 - 1) (drop 1 text), length-drop 1 text) in
    omega (arith, same, len)

value_fits : (k : TokenKind) (text : List ℕ) (v : Value) → literal_value k text ≡ Some v → value_mass v ≤ suc (length text)
unfolding literal_value
value_fits kind.Word text v e = word_fits text v e
value_fits kind.Number text v e = decimal_fits text v e
value_fits kind.Text text v e = plain_fits text v e
value_fits kind.Name text v e = absurd cc
value_fits kind.Mark text v e = absurd cc

literal_fits : (ls : List Lexeme) (x : Value × List Lexeme) → literal ls ≡ Some x → value_mass x.0 + text_total x.1 ≤ suc (text_total ls)
unfolding literal
literal_fits [] x e = absurd cc
literal_fits (l ∷ ls) x e =
    let b = bind_gave (literal_value l.kind l.text) (λ value. Some (value, ls)) x e in
    let fits = value_fits l.kind l.text b.0 b.1 in
    subst (λ (y : Value × List Lexeme). value_mass y.0 + text_total y.1 ≤ suc (text_total (l ∷ ls))) (some_gave (b.0, ls) x b.2) (omega (arith, fits))

name_fits : (ls : List Lexeme) (x : List ℕ × List Lexeme) → free_name ls ≡ Some x → length x.0 + text_total x.1 ≤ text_total ls
unfolding free_name
name_fits [] x e = absurd cc
name_fits (l ∷ ls) x e =
    let h = if_gave (is_name_token l.kind && is_free_name l.text) (Some (l.text, ls)) x e in
    subst (λ (y : List ℕ × List Lexeme). length y.0 + text_total y.1 ≤ text_total (l ∷ ls)) (some_gave (l.text, ls) x h.1) (omega arith)

global_name_fits : (ls : List Lexeme) (x : List ℕ × List Lexeme) → global_name ls ≡ Some x → 10 + length x.0 + text_total x.1 ≤ text_total ls
unfolding global_name
global_name_fits ls x e =
    let b = bind_gave (expect (codes "globalThis") ls) (λ rest. expect (codes ".") rest >>= λ more. free_name more) x e in
    let c = bind_gave (expect (codes ".") b.0) (λ more. free_name more) x b.2 in
    let ten : length (codes "globalThis") ≡ 10 = refl in
    omega (arith, ten, expect_fits (codes "globalThis") ls b.0 b.1, expect_fits (codes ".") b.0 c.0 c.1, name_fits c.0 x c.2)

argument_by : (ls : List Lexeme) (o : Option (Value × List Lexeme)) (x : ThinStatement × List Lexeme)
    → elim o [ Some found ↦ Some (Log found.0, found.1) | None ↦ global_name ls >>= λ found. Some (LogGlobal found.0, found.1) ] ≡ Some x → statement_mass x.0 ≡ 0
argument_by ls (Some found) x e = sym (ap (λ (y : ThinStatement × List Lexeme). statement_mass y.0) (some_gave (Log found.0, found.1) x e))
argument_by ls None x e =
    let b = bind_gave (global_name ls) (λ found. Some (LogGlobal found.0, found.1)) x e in
    sym (ap (λ (y : ThinStatement × List Lexeme). statement_mass y.0) (some_gave (LogGlobal b.0.0, b.0.1) x b.2))

argument_sets_nothing : (ls : List Lexeme) (x : ThinStatement × List Lexeme) → argument ls ≡ Some x → statement_mass x.0 ≡ 0
unfolding argument
argument_sets_nothing ls x e = argument_by ls (literal ls) x e

log_sets_nothing : (ls : List Lexeme) (x : ThinStatement × List Lexeme) → log_statement ls ≡ Some x → statement_mass x.0 ≡ 0
unfolding log_statement
log_sets_nothing ls x e =
    let a = bind_gave (expect (codes "console") ls) (λ r. expect (codes ".") r >>= λ r. expect (codes "log") r >>= λ r. expect (codes "(") r >>= λ r. argument r >>= λ found. closed found.1 >>= λ r. Some (found.0, r)) x e in
    let b = bind_gave (expect (codes ".") a.0) (λ r. expect (codes "log") r >>= λ r. expect (codes "(") r >>= λ r. argument r >>= λ found. closed found.1 >>= λ r. Some (found.0, r)) x a.2 in
    let c = bind_gave (expect (codes "log") b.0) (λ r. expect (codes "(") r >>= λ r. argument r >>= λ found. closed found.1 >>= λ r. Some (found.0, r)) x b.2 in
    let d = bind_gave (expect (codes "(") c.0) (λ r. argument r >>= λ found. closed found.1 >>= λ r. Some (found.0, r)) x c.2 in
    let f = bind_gave (argument d.0) (λ found. closed found.1 >>= λ r. Some (found.0, r)) x d.2 in
    let g = bind_gave (closed f.0.1) (λ r. Some (f.0.0, r)) x f.2 in
    let same = ap (λ (y : ThinStatement × List Lexeme). statement_mass y.0) (some_gave (f.0.0, g.0) x g.2) in
    sym same ∙ argument_sets_nothing d.0 f.0 f.1

assign_fits : (ls : List Lexeme) (x : ThinStatement × List Lexeme) → assign_statement ls ≡ Some x → statement_mass x.0 + text_total x.1 ≤ text_total ls
unfolding assign_statement
assign_fits ls x e =
    let a = bind_gave (global_name ls) (λ name. expect (codes "=") name.1 >>= λ r. literal r >>= λ value. expect (codes ";") value.1 >>= λ r. Some (Assign name.0 value.0, r)) x e in
    let b = bind_gave (expect (codes "=") a.0.1) (λ r. literal r >>= λ value. expect (codes ";") value.1 >>= λ r. Some (Assign a.0.0 value.0, r)) x a.2 in
    let c = bind_gave (literal b.0) (λ value. expect (codes ";") value.1 >>= λ r. Some (Assign a.0.0 value.0, r)) x b.2 in
    let d = bind_gave (expect (codes ";") c.0.1) (λ r. Some (Assign a.0.0 c.0.0, r)) x c.2 in
    subst (λ (y : ThinStatement × List Lexeme). statement_mass y.0 + text_total y.1 ≤ text_total ls) (some_gave (Assign a.0.0 c.0.0, d.0) x d.2)
    (omega (arith, global_name_fits ls a.0 a.1, expect_fits (codes "=") a.0.1 b.0 b.1, literal_fits b.0 c.0 c.1, expect_fits (codes ";") c.0.1 d.0 d.1))

left_fits : (ls after : List Lexeme) → EndsWith ls after → text_total after ≤ text_total ls
left_fits ls after h = omega (arith, ap text_total h.parts, text_total-append h.front after)

statement_by : (ls : List Lexeme) (o : Option (ThinStatement × List Lexeme)) (x : ThinStatement × List Lexeme) → log_statement ls ≡ o → text_total x.1 ≤ text_total ls
    → elim o [ Some found ↦ Some found | None ↦ assign_statement ls ] ≡ Some x → statement_mass x.0 + text_total x.1 ≤ text_total ls
statement_by ls (Some found) x o-is left e =
    let none = log_sets_nothing ls found o-is in
    let same = ap (λ (y : ThinStatement × List Lexeme). statement_mass y.0) (some_gave found x e) in
    omega (arith, none, same, left)
statement_by ls None x o-is left e = assign_fits ls x e

-- a statement sets no more than its tokens hold
pub statement_fits : (ls : List Lexeme) (x : ThinStatement × List Lexeme) → thin_statement ls ≡ Some x → statement_mass x.0 + text_total x.1 ≤ text_total ls
unfolding thin_statement
statement_fits ls x e = statement_by ls (log_statement ls) x refl (left_fits ls x.1 (statement_ends ls x e)) e

pub statements_fit : (most : ℕ) (ls : List Lexeme) (ss : List ThinStatement) → thin_statements most ls ≡ Some ss → script_mass ss ≤ text_total ls
unfolding thin_statements
statements_fit most [] ss e = subst (λ (all : List ThinStatement). script_mass all ≤ 0) (some_gave [] ss e) (omega arith)
statements_fit zero (l ∷ ls) ss e = absurd cc
statements_fit (suc most) (l ∷ ls) ss e =
    let a = bind_gave (thin_statement (l ∷ ls)) (λ found. thin_statements most found.1 >>= λ others. Some (found.0 ∷ others)) ss e in
    let b = bind_gave (thin_statements most a.0.1) (λ others. Some (a.0.0 ∷ others)) ss a.2 in
    let first = statement_fits (l ∷ ls) a.0 a.1 in
    let rest = statements_fit most a.0.1 b.0 b.1 in
    subst (λ (all : List ThinStatement). script_mass all ≤ text_total (l ∷ ls)) (some_gave (a.0.0 ∷ b.0) ss b.2) (omega (arith, first, rest))

tokens_fit : (source : List ℕ) (ls : List Lexeme) (ss : List ThinStatement) → statements_of source ls ≡ Some ss → script_mass ss ≤ text_total ls
unfolding statements_of
tokens_fit source ls ss e =
    let h = if_gave (parts_by_blanks source 0 ls) (thin_statements (length ls) ls) ss e in
    statements_fit (length ls) ls ss h.1

script_by : (source : List ℕ) (r : Result (List Lexeme) LexFault) (ss : List ThinStatement) → lexemes source ≡ r → elim r [ Ok ls ↦ statements_of source ls | Err fault ↦ None ] ≡ Some ss → script_mass ss ≤ length source
script_by source (Ok ls) ss r-is e = omega (arith, tokens_fit source ls ss e, texts_fit_source source ls r-is)
script_by source (Err fault) ss r-is e = absurd cc

-- a thin script sets no more than it has bytes, of which there are few
pub script_fits : (source : List ℕ) (ss : List ThinStatement) → thin_script source ≡ Some ss → (script_mass ss ≤ length source) × (length source ≤ MOST_SOURCE_BYTES)
unfolding thin_script
script_fits source ss e =
    let h = if_gave (nat_le (length source) MOST_SOURCE_BYTES) (elim (lexemes source) [ Ok ls ↦ statements_of source ls | Err fault ↦ None ]) ss e in
    (script_by source (lexemes source) ss refl h.1, leb-true (length source) MOST_SOURCE_BYTES h.0)

-- ---- what a script leaves

assigned_fits : (globals : Globals) (name : List ℕ) (v : Value) → globals_mass (assigned globals name v) ≤ globals_mass globals + global_mass (name, v)
assigned_fits [] name v = omega arith
assigned_fits (global ∷ globals) name v =
    let more = assigned_fits globals name v in
    elim (bytes_eq name global.0) as (λ b. globals_mass (cond b ((global.0, v) ∷ globals) (global ∷ assigned globals name v)) ≤ globals_mass (global ∷ globals) + global_mass (name, v)) [
      | true ↦ omega arith
      | false ↦ omega (arith, more)
    ]

-- what statements leave holds no more than what there was and what they set
pub leaves_fit : (ss : List ThinStatement) (globals : Globals) → globals_mass (leaves ss globals) ≤ globals_mass globals + script_mass ss
leaves_fit [] globals = omega arith
leaves_fit (Log value ∷ ss) globals = omega (arith, leaves_fit ss globals)
leaves_fit (LogGlobal name ∷ ss) globals = omega (arith, leaves_fit ss globals)
leaves_fit (Assign name value ∷ ss) globals = omega (arith, leaves_fit ss (assigned globals name value), assigned_fits globals name value)

-- ---- what is captured

mass-append : (texts others : List (List ℕ)) → mass (texts ++ others) ≡ mass texts + mass others
mass-append [] others = omega arith
mass-append (text ∷ texts) others = omega (arith, mass-append texts others)

value_texts_fit : (v : Value) → mass (value_texts v) ≡ value_mass v
value_texts_fit value.Undefined = refl
value_texts_fit value.Null = refl
value_texts_fit (value.Bool b) = refl
value_texts_fit (value.Int z) = refl
value_texts_fit (value.Text text) = omega arith
value_texts_fit (value.Node node) = refl
value_texts_fit value.Empty = refl

texts_of-append : (properties others : List Property) → mass (texts_of (properties ++ others)) ≡ mass (texts_of properties) + mass (texts_of others)
texts_of-append [] others = omega arith
texts_of-append (property ∷ properties) others =
    omega (arith, texts_of-append properties others, mass-append (value_texts property.value) (texts_of (properties ++ others)), mass-append (value_texts property.value) (texts_of properties))

global_texts : (globals : Globals) → mass (texts_of (map property_of globals)) ≡ globals_mass globals
global_texts [] = refl
global_texts (global ∷ globals) =
    omega (arith, global_texts globals, mass-append (value_texts global.1) (texts_of (map property_of globals)), value_texts_fit global.1)

own_texts : mass (texts_of own_properties) ≡ 102
own_texts = refl

-- how much the texts of a global object hold
pub texts_mass : (globals : Globals) → mass (texts_of (properties_of globals)) ≡ 102 + globals_mass globals
texts_mass globals = omega (arith, texts_of-append own_properties (map property_of globals), own_texts, global_texts globals)

pub texts_fit : (globals : Globals) → mass (texts_of (properties_of globals)) ≤ 200 + globals_mass globals
texts_fit globals = omega (arith, texts_mass globals)

count_globals : (globals : Globals) → length globals ≤ globals_mass globals
count_globals [] = omega arith
count_globals (global ∷ globals) = omega (arith, count_globals globals)

pub count_fits : (globals : Globals) → length (properties_of globals) ≤ 13 + globals_mass globals
count_fits globals =
    let own : length own_properties ≡ 13 = refl in
    omega (arith, length-append own_properties (map property_of globals), own, length-map globals property_of, count_globals globals)

-- what a thin script leaves is captured in few texts and few properties
pub captured_fits : (source : List ℕ) (ss : List ThinStatement) → thin_script source ≡ Some ss → (mass (texts_of (properties_of (leaves ss []))) ≤ 1048776) × (length (properties_of (leaves ss [])) ≤ 1048589)
captured_fits source ss e =
    let script = script_fits source ss e in
    let left = leaves_fit ss [] in
    let mass = texts_fit (leaves ss []) in
    let count = count_fits (leaves ss []) in
    (omega (arith, script.0, script.1, left, mass), omega (arith, script.0, script.1, left, count))
