-- What a thin script leaves may stand on a global object: its names are names of the language, and its values are primitive.
use Rattle.std.proofs.Common.{◌≡◌, ℕ, zero, suc, ◌≤◌, ◌<◌, ◌^◌, Bool, true, false, cond, ◌&&◌, subst, All, List, [], ◌∷◌, ◌++◌, Option, Some, None, Result, Ok, Err, length, get_or, map, refl, sym, arith}
use Rattle.std.specs.Prelude.{◌==◌, ◌+◌, ◌-◌, codes, nat_le, pos, slice_range}
use Rattle.std.specs.List.{AllByRecursion, list_all, list_any}
use Rattle.std.specs.Str.{bytes_eq}
use Rattle.std.proofs.lemmas.Bool.{and_parts, leb-true}
use Rattle.std.proofs.lemmas.List.Elements.{All-append, All-from_recursion, All-map}
use Rattle.snap_base.specs.declared.limits.TheConstants.{MOST_SOURCE_BYTES}
use Rattle.spec_tokens.proofs.Sound.{list_is_cut}
use Rattle.spec_tokens.specs.Byte.{is_digit, is_part}
use Rattle.spec_tokens.specs.Laws.{AreElements, Element, spelled, tokens_among}
use Rattle.spec_tokens.specs.Number.{largest, number_value}
use Rattle.spec_tokens.specs.Shape.{AllAre, IsWord, Stands}
use Rattle.spec_tokens.specs.Tokens.{Lexeme, lexemes, lexemes_of, newline_behind}
use Rattle.spec_tokens.specs.Word.{is_reserved}
use Rattle.spec_tokens.specs.declared.fault.LexFault.{LexFault}
use Rattle.spec_tokens.specs.declared.piece.PieceKind.{PieceKind}
use Rattle.spec_tokens.specs.declared.piece.PieceKind.TheVariants.{Blank, LineEnd, Token}
use Rattle.spec_tokens.specs.declared.piece.TokenKind.{TokenKind}
use Rattle.spec_tokens.specs.declared.piece.TokenKind.TheVariants as kind
use Rattle.snap_graph.specs.declared.value.Property.{Property}
use Rattle.snap_graph.specs.declared.value.Value.{Value}
use Rattle.snap_graph.specs.declared.value.Value.TheVariants as value
use Rattle.snap_commands.specs.Properties.{own_properties, properties_of, property_of}
use Rattle.snap_commands.specs.Thin.{Globals, ThinStatement, Assign, Log, LogGlobal, assigned, leaves}
use Rattle.snap_commands.specs.ThinBlob.{IsPrimitive, IsThinGlobal, is_name}
use Rattle.snap_commands.specs.ThinSource.{◌>>=◌, argument, assign_statement, closed, decimal_value, expect, free_name, global_name, is_free_name, is_name_token, literal, literal_value, log_statement, parts_by_blanks, plain_text_value, statements_of, thin_script, thin_statement, thin_statements, word_value}
use Rattle.snap_commands.proofs.FreeNames.{left_free}
use Rattle.snap_commands.proofs.MadeBlobs.{IsStored}
use Rattle.snap_commands.proofs.Steps.{bind_gave, if_gave, some_gave, unless_gave}
use Rattle.snap_commands.proofs.Suffixes.{EndsWith, statement_ends}

-- ---- the names among the tokens

-- a token that is read as a name is one of the language
abbrev IsNamed : Lexeme → Type 0
IsNamed l = is_name_token l.kind ≡ true → is_name l.text ≡ true

all_parts : (bytes : List ℕ) → AllAre is_part bytes → list_all is_part bytes ≡ true
all_parts [] are = refl
all_parts (b ∷ bytes) are = rw (are.0, all_parts bytes are.1) refl

word_is_name : (text rest : List ℕ) → IsWord text rest → is_reserved text ≡ false → is_name text ≡ true
word_is_name [] rest word other = absurd word
word_is_name (b ∷ bytes) rest word other = rw (word.0, all_parts bytes word.1, other) refl

-- a piece before other tokens
piece_named : (k : PieceKind) (text rest : List ℕ) (at : ℕ) (newline : Bool) (ls : List Lexeme) → Stands k text rest → AllByRecursion IsNamed ls → AllByRecursion IsNamed (lexemes_of k text at newline ++ ls)
unfolding is_name_token
piece_named Blank text rest at newline ls stands are = are
piece_named LineEnd text rest at newline ls stands are = are
piece_named (Token kind.Name) text rest at newline ls stands are = (λ name. word_is_name text rest stands.0 stands.1, are)
piece_named (Token kind.Word) text rest at newline ls stands are = (λ name. absurd cc, are)
piece_named (Token kind.Number) text rest at newline ls stands are = (λ name. absurd cc, are)
piece_named (Token kind.Text) text rest at newline ls stands are = (λ name. absurd cc, are)
piece_named (Token kind.Mark) text rest at newline ls stands are = (λ name. absurd cc, are)

tokens_named : (at : ℕ) (newline : Bool) (elements : List Element) → AreElements elements → AllByRecursion IsNamed (tokens_among at newline elements)
tokens_named at newline [] are = tt
tokens_named at newline (element ∷ elements) are =
    piece_named element.kind element.text (spelled elements) at newline (tokens_among (at + length element.text) (newline_behind element.kind newline) elements) are.0
    (tokens_named (at + length element.text) (newline_behind element.kind newline) elements are.1)

source_named : (source : List ℕ) (ls : List Lexeme) → lexemes source ≡ Ok ls → AllByRecursion IsNamed ls
source_named source ls e =
    let tokens = list_is_cut source ls e in
    subst (AllByRecursion IsNamed) (sym tokens.tokens) (tokens_named 0 false tokens.elements tokens.pieces)

-- what stands behind others
rest_named : (front after : List Lexeme) → AllByRecursion IsNamed (front ++ after) → AllByRecursion IsNamed after
rest_named [] after are = are
rest_named (l ∷ front) after are = rest_named front after are.1

left_named : (ls after : List Lexeme) → EndsWith ls after → AllByRecursion IsNamed ls → AllByRecursion IsNamed after
left_named ls after h are = rest_named h.front after (subst (AllByRecursion IsNamed) h.parts are)

-- ---- what a literal stands for

word_by : (a b c d : Bool) (v : Value) → cond a (Some (value.Bool true)) (cond b (Some (value.Bool false)) (cond c (Some value.Null) (cond d (Some value.Undefined) None))) ≡ Some v → IsPrimitive v
word_by true b c d v e = subst IsPrimitive (some_gave (value.Bool true) v e) tt
word_by false true c d v e = subst IsPrimitive (some_gave (value.Bool false) v e) tt
word_by false false true d v e = subst IsPrimitive (some_gave value.Null v e) tt
word_by false false false true v e = subst IsPrimitive (some_gave value.Undefined v e) tt
word_by false false false false v e = absurd cc

word_primitive : (text : List ℕ) (v : Value) → word_value text ≡ Some v → IsPrimitive v
unfolding word_value
word_primitive text v e = word_by (bytes_eq text (codes "true")) (bytes_eq text (codes "false")) (bytes_eq text (codes "null")) (bytes_eq text (codes "undefined")) v e

largest_is_safe : (n : ℕ) → n ≤ largest → n < 2 ^ 53
largest_is_safe n le = omega (arith, le)

decimal_primitive : (text : List ℕ) (v : Value) → decimal_value text ≡ Some v → IsPrimitive v
unfolding decimal_value
decimal_primitive text v e =
    let h = if_gave (list_all is_digit text && nat_le (number_value text) largest) (Some (value.Int (pos (number_value text)))) v e in
    let few = leb-true (number_value text) largest (and_parts (list_all is_digit text) (nat_le (number_value text) largest) h.0).1 in
    subst IsPrimitive (some_gave (value.Int (pos (number_value text))) v h.1) (largest_is_safe (number_value text) few)

plain_primitive : (text : List ℕ) (v : Value) → plain_text_value text ≡ Some v → IsPrimitive v
unfolding plain_text_value
plain_primitive text v e =
    let units = slice_range text 1 (length text - 1) in
    let h = unless_gave (list_any (λ b. b == 92) text) (Some (value.Text units)) v e in
    subst IsPrimitive (some_gave (value.Text units) v h) tt

value_primitive : (k : TokenKind) (text : List ℕ) (v : Value) → literal_value k text ≡ Some v → IsPrimitive v
unfolding literal_value
value_primitive kind.Word text v e = word_primitive text v e
value_primitive kind.Number text v e = decimal_primitive text v e
value_primitive kind.Text text v e = plain_primitive text v e
value_primitive kind.Name text v e = absurd cc
value_primitive kind.Mark text v e = absurd cc

literal_primitive : (ls : List Lexeme) (x : Value × List Lexeme) → literal ls ≡ Some x → IsPrimitive x.0
unfolding literal
literal_primitive [] x e = absurd cc
literal_primitive (l ∷ ls) x e =
    let b = bind_gave (literal_value l.kind l.text) (λ value. Some (value, ls)) x e in
    subst (λ (y : Value × List Lexeme). IsPrimitive y.0) (some_gave (b.0, ls) x b.2) (value_primitive l.kind l.text b.0 b.1)

-- ---- what a script sets

-- a statement that sets a name sets one of the language, to a primitive value
abbrev SetsThin : ThinStatement → Type 0
SetsThin (Log value) = Unit {0}
SetsThin (LogGlobal name) = Unit {0}
SetsThin (Assign name value) = (is_name name ≡ true) × IsPrimitive value

expect_named : (text : List ℕ) (ls after : List Lexeme) → AllByRecursion IsNamed ls → expect text ls ≡ Some after → AllByRecursion IsNamed after
unfolding expect
expect_named text [] after are e = absurd cc
expect_named text (l ∷ ls) after are e =
    let h = if_gave (bytes_eq l.text text) (Some ls) after e in
    subst (AllByRecursion IsNamed) (some_gave ls after h.1) are.1

free_name_named : (ls : List Lexeme) (x : List ℕ × List Lexeme) → AllByRecursion IsNamed ls → free_name ls ≡ Some x → is_name x.0 ≡ true
unfolding free_name
free_name_named [] x are e = absurd cc
free_name_named (l ∷ ls) x are e =
    let h = if_gave (is_name_token l.kind && is_free_name l.text) (Some (l.text, ls)) x e in
    subst (λ (y : List ℕ × List Lexeme). is_name y.0 ≡ true) (some_gave (l.text, ls) x h.1) (are.0 (and_parts (is_name_token l.kind) (is_free_name l.text) h.0).0)

global_named : (ls : List Lexeme) (x : List ℕ × List Lexeme) → AllByRecursion IsNamed ls → global_name ls ≡ Some x → is_name x.0 ≡ true
unfolding global_name
global_named ls x are e =
    let b = bind_gave (expect (codes "globalThis") ls) (λ rest. expect (codes ".") rest >>= λ more. free_name more) x e in
    let c = bind_gave (expect (codes ".") b.0) (λ more. free_name more) x b.2 in
    free_name_named c.0 x (expect_named (codes ".") b.0 c.0 (expect_named (codes "globalThis") ls b.0 are b.1) c.1) c.2

argument_by : (ls : List Lexeme) (o : Option (Value × List Lexeme)) (x : ThinStatement × List Lexeme)
    → elim o [ Some found ↦ Some (Log found.0, found.1) | None ↦ global_name ls >>= λ found. Some (LogGlobal found.0, found.1) ] ≡ Some x → SetsThin x.0
argument_by ls (Some found) x e = subst (λ (y : ThinStatement × List Lexeme). SetsThin y.0) (some_gave (Log found.0, found.1) x e) tt
argument_by ls None x e =
    let b = bind_gave (global_name ls) (λ found. Some (LogGlobal found.0, found.1)) x e in
    subst (λ (y : ThinStatement × List Lexeme). SetsThin y.0) (some_gave (LogGlobal b.0.0, b.0.1) x b.2) tt

argument_sets_thin : (ls : List Lexeme) (x : ThinStatement × List Lexeme) → argument ls ≡ Some x → SetsThin x.0
unfolding argument
argument_sets_thin ls x e = argument_by ls (literal ls) x e

log_sets_thin : (ls : List Lexeme) (x : ThinStatement × List Lexeme) → log_statement ls ≡ Some x → SetsThin x.0
unfolding log_statement
log_sets_thin ls x e =
    let a = bind_gave (expect (codes "console") ls) (λ r. expect (codes ".") r >>= λ r. expect (codes "log") r >>= λ r. expect (codes "(") r >>= λ r. argument r >>= λ found. closed found.1 >>= λ r. Some (found.0, r)) x e in
    let b = bind_gave (expect (codes ".") a.0) (λ r. expect (codes "log") r >>= λ r. expect (codes "(") r >>= λ r. argument r >>= λ found. closed found.1 >>= λ r. Some (found.0, r)) x a.2 in
    let c = bind_gave (expect (codes "log") b.0) (λ r. expect (codes "(") r >>= λ r. argument r >>= λ found. closed found.1 >>= λ r. Some (found.0, r)) x b.2 in
    let d = bind_gave (expect (codes "(") c.0) (λ r. argument r >>= λ found. closed found.1 >>= λ r. Some (found.0, r)) x c.2 in
    let f = bind_gave (argument d.0) (λ found. closed found.1 >>= λ r. Some (found.0, r)) x d.2 in
    let g = bind_gave (closed f.0.1) (λ r. Some (f.0.0, r)) x f.2 in
    subst (λ (y : ThinStatement × List Lexeme). SetsThin y.0) (some_gave (f.0.0, g.0) x g.2) (argument_sets_thin d.0 f.0 f.1)

assign_sets_thin : (ls : List Lexeme) (x : ThinStatement × List Lexeme) → AllByRecursion IsNamed ls → assign_statement ls ≡ Some x → SetsThin x.0
unfolding assign_statement
assign_sets_thin ls x are e =
    let a = bind_gave (global_name ls) (λ name. expect (codes "=") name.1 >>= λ r. literal r >>= λ value. expect (codes ";") value.1 >>= λ r. Some (Assign name.0 value.0, r)) x e in
    let b = bind_gave (expect (codes "=") a.0.1) (λ r. literal r >>= λ value. expect (codes ";") value.1 >>= λ r. Some (Assign a.0.0 value.0, r)) x a.2 in
    let c = bind_gave (literal b.0) (λ value. expect (codes ";") value.1 >>= λ r. Some (Assign a.0.0 value.0, r)) x b.2 in
    let d = bind_gave (expect (codes ";") c.0.1) (λ r. Some (Assign a.0.0 c.0.0, r)) x c.2 in
    subst (λ (y : ThinStatement × List Lexeme). SetsThin y.0) (some_gave (Assign a.0.0 c.0.0, d.0) x d.2) (global_named ls a.0 are a.1, literal_primitive b.0 c.0 c.1)

statement_by : (ls : List Lexeme) (o : Option (ThinStatement × List Lexeme)) (x : ThinStatement × List Lexeme) → AllByRecursion IsNamed ls → log_statement ls ≡ o
    → elim o [ Some found ↦ Some found | None ↦ assign_statement ls ] ≡ Some x → SetsThin x.0
statement_by ls (Some found) x are o-is e = subst (λ (y : ThinStatement × List Lexeme). SetsThin y.0) (some_gave found x e) (log_sets_thin ls found o-is)
statement_by ls None x are o-is e = assign_sets_thin ls x are e

statement_sets_thin : (ls : List Lexeme) (x : ThinStatement × List Lexeme) → AllByRecursion IsNamed ls → thin_statement ls ≡ Some x → SetsThin x.0
unfolding thin_statement
statement_sets_thin ls x are e = statement_by ls (log_statement ls) x are refl e

statements_set_thin : (most : ℕ) (ls : List Lexeme) (ss : List ThinStatement) → AllByRecursion IsNamed ls → thin_statements most ls ≡ Some ss → AllByRecursion SetsThin ss
unfolding thin_statements
statements_set_thin most [] ss are e = subst (AllByRecursion SetsThin) (some_gave [] ss e) tt
statements_set_thin zero (l ∷ ls) ss are e = absurd cc
statements_set_thin (suc most) (l ∷ ls) ss are e =
    let a = bind_gave (thin_statement (l ∷ ls)) (λ found. thin_statements most found.1 >>= λ others. Some (found.0 ∷ others)) ss e in
    let b = bind_gave (thin_statements most a.0.1) (λ others. Some (a.0.0 ∷ others)) ss a.2 in
    let first = statement_sets_thin (l ∷ ls) a.0 are a.1 in
    let rest = statements_set_thin most a.0.1 b.0 (left_named (l ∷ ls) a.0.1 (statement_ends (l ∷ ls) a.0 a.1) are) b.1 in
    subst (AllByRecursion SetsThin) (some_gave (a.0.0 ∷ b.0) ss b.2) (first, rest)

tokens_set_thin : (source : List ℕ) (ls : List Lexeme) (ss : List ThinStatement) → AllByRecursion IsNamed ls → statements_of source ls ≡ Some ss → AllByRecursion SetsThin ss
unfolding statements_of
tokens_set_thin source ls ss are e =
    let h = if_gave (parts_by_blanks source 0 ls) (thin_statements (length ls) ls) ss e in
    statements_set_thin (length ls) ls ss are h.1

script_by : (source : List ℕ) (r : Result (List Lexeme) LexFault) (ss : List ThinStatement) → lexemes source ≡ r → elim r [ Ok ls ↦ statements_of source ls | Err fault ↦ None ] ≡ Some ss → AllByRecursion SetsThin ss
script_by source (Ok ls) ss r-is e = tokens_set_thin source ls ss (source_named source ls r-is) e
script_by source (Err fault) ss r-is e = absurd cc

script_sets_thin : (source : List ℕ) (ss : List ThinStatement) → thin_script source ≡ Some ss → AllByRecursion SetsThin ss
unfolding thin_script
script_sets_thin source ss e =
    let h = if_gave (nat_le (length source) MOST_SOURCE_BYTES) (elim (lexemes source) [ Ok ls ↦ statements_of source ls | Err fault ↦ None ]) ss e in
    script_by source (lexemes source) ss refl h.1

-- ---- what a script leaves

-- a name of the language, and a primitive value
abbrev IsPlainGlobal : List ℕ × Value → Type 0
IsPlainGlobal global = (is_name global.0 ≡ true) × IsPrimitive global.1

assigned_plain : (globals : Globals) (name : List ℕ) (v : Value) → is_name name ≡ true → IsPrimitive v → AllByRecursion IsPlainGlobal globals → AllByRecursion IsPlainGlobal (assigned globals name v)
assigned_plain [] name v named primitive are = ((named, primitive), tt)
assigned_plain (global ∷ globals) name v named primitive are =
    let more = assigned_plain globals name v named primitive are.1 in
    elim (bytes_eq name global.0) as (λ b. AllByRecursion IsPlainGlobal (cond b ((global.0, v) ∷ globals) (global ∷ assigned globals name v))) [
      | true ↦ ((are.0.0, primitive), are.1)
      | false ↦ (are.0, more)
    ]

leaves_plain : (ss : List ThinStatement) (globals : Globals) → AllByRecursion SetsThin ss → AllByRecursion IsPlainGlobal globals → AllByRecursion IsPlainGlobal (leaves ss globals)
leaves_plain [] globals set are = are
leaves_plain (Log value ∷ ss) globals set are = leaves_plain ss globals set.1 are
leaves_plain (LogGlobal name ∷ ss) globals set are = leaves_plain ss globals set.1 are
leaves_plain (Assign name value ∷ ss) globals set are = leaves_plain ss (assigned globals name value) set.1 (assigned_plain globals name value set.0.0 set.0.1 are)

left_plain : (source : List ℕ) (ss : List ThinStatement) → thin_script source ≡ Some ss → All IsPlainGlobal (leaves ss [])
left_plain source ss e = All-from_recursion IsPlainGlobal (leaves ss []) (leaves_plain ss [] (script_sets_thin source ss e) tt)

-- each global that a thin script leaves is one that it may set
pub left_thin : (source : List ℕ) (ss : List ThinStatement) → thin_script source ≡ Some ss → All IsThinGlobal (leaves ss [])
left_thin source ss e k d lt = record {
  name = (left_plain source ss e k d lt).0;
  free = left_free source ss e k d lt;
  primitive = (left_plain source ss e k d lt).1;
}

-- ---- what is captured

primitive_stored : (v : Value) → IsPrimitive v → IsStored v
primitive_stored value.Undefined is = tt
primitive_stored value.Null is = tt
primitive_stored (value.Bool b) is = tt
primitive_stored (value.Int z) is = is
primitive_stored (value.Text text) is = tt
primitive_stored (value.Node node) is = absurd is
primitive_stored value.Empty is = is

-- the value of a property is one that a build stores
abbrev HasStored : Property → Type 0
HasStored p = IsStored p.value

own_stored : AllByRecursion HasStored own_properties
own_stored = (omega arith, (omega arith, (omega arith, (omega arith, (omega arith, (omega arith, (omega arith, (omega arith, (omega arith, (omega arith, (omega arith, (omega arith, (omega arith, tt)))))))))))))

-- a build stores what a thin script leaves
pub stored_properties : (globals : Globals) → All IsThinGlobal globals → All (λ p. IsStored p.value) (properties_of globals)
stored_properties globals are =
    All-append HasStored own_properties (map property_of globals) (All-from_recursion HasStored own_properties own_stored)
    (All-map HasStored property_of globals (λ k d lt. primitive_stored (get_or globals k d).1 (are k d lt).primitive))
