-- What a source is read as, in the language's own words.
use Rattle.std.proofs.Common.{◌≡◌, ℕ, List, ◌⊎◌, inl, inr, Result, Ok, Err, length, refl, ap}
use Rattle.std.specs.Prelude.{IfErr, IfOk}
use Rattle.snap_ast.specs.Lawful.{Lawful}
use Rattle.snap_ast.specs.declared.tree.Tree.{Tree}
use Rattle.spec_tokens.specs.Faults.{HasFault}
use Rattle.spec_tokens.specs.Tokens.{Lexeme, lexemes}
use Rattle.spec_tokens.specs.declared.fault.LexFault.{LexFault}
use Rattle.spec_tokens.specs.declared.fault.LexFault.TheVariants as lex
use Rattle.spec_tokens.proofs.Faults.{fault_is_read}
use Rattle.spec_tokens.proofs.Lacking.{fault_is_cut}
use Rattle.spec_grammar.specs.Outcome.{Nested, Outcome, Syntax}
use Rattle.spec_grammar.specs.Phrase.{Row}
use Rattle.spec_grammar.specs.Read.{script}
use Rattle.spec_grammar.specs.Source.{HasDeepTree, HasTree, NoTokens, NoTree, Refused, read_tree, tree_among, tree_by}
use Rattle.spec_grammar.proofs.LawfulTrees.{tree_lawful}
use Rattle.spec_grammar.proofs.Sources.{deep_is_nested, read_is_tree, refused_has_none, syntax_has_none}
use Rattle.snap_parse.specs.Answers.{GivesRefusal, GivesTree, HasCause, IsNested, IsRefusal, source_fault}
use Rattle.snap_parse.specs.declared.fault.SourceFault.{SourceFault}
use Rattle.snap_parse.specs.declared.parser.Parsed.{Parsed}
use Rattle.snap_parse.specs.declared.fault.SourceFault.TheVariants as fault

-- ---- a tree

pub tree_ok : (source : List ℕ) (answer : Result Parsed SourceFault) → IfOk answer (λ parsed. read_tree source ≡ Ok parsed.tree) → IfOk answer (λ parsed. HasTree source parsed.tree)
tree_ok source (Ok parsed) is = read_is_tree source parsed.tree is
tree_ok source (Err fault) is = tt

pub lawful_ok : (source : List ℕ) (answer : Result Parsed SourceFault) → IfOk answer (λ parsed. read_tree source ≡ Ok parsed.tree) → IfOk answer (λ parsed. Lawful parsed.tree)
lawful_ok source (Ok parsed) is = tree_lawful source parsed.tree (read_is_tree source parsed.tree is)
lawful_ok source (Err fault) is = tt

-- ---- no tokens

tree_or_refusal : (end : ℕ) (found : Outcome (Row ℕ)) (fault : LexFault) → tree_by end found ≡ Err (NoTokens fault) → ⊥
tree_or_refusal end (Ok found) fault e = absurd cc
tree_or_refusal end (Err refusal) fault e = absurd cc

untokened_by : (end : ℕ) (read : Result (List Lexeme) LexFault) (fault : LexFault) → tree_among end read ≡ Err (NoTokens fault) → read ≡ Err fault
untokened_by end (Ok tokens) fault e = absurd (tree_or_refusal end (script tokens) fault e)
untokened_by end (Err other) fault e = cc

-- where no tokens are read there are none
untokened : (source : List ℕ) (fault : LexFault) → read_tree source ≡ Err (NoTokens fault) → lexemes source ≡ Err fault
unfolding read_tree
untokened source fault e = untokened_by (length source) (lexemes source) fault e

-- and the other way round
pub fault_refuses : (source : List ℕ) (fault : LexFault) → HasFault source fault → read_tree source ≡ Err (NoTokens fault)
unfolding read_tree
fault_refuses source fault has = ap (tree_among (length source)) (fault_is_read source fault has)

-- ---- causes

-- a source that is read as no tree has the cause
pub read_cause : (source : List ℕ) (refused : Refused) → read_tree source ≡ Err refused → HasCause source (source_fault refused)
read_cause source (NoTokens found) is = fault_is_cut source found (untokened source found is)
read_cause source (NoTree Syntax at) is = λ tree has. syntax_has_none source at tree is has
read_cause source (NoTree Nested at) is = λ tree has. refused_has_none source (NoTree Nested at) tree is has

refusal_cause : (source : List ℕ) (found : SourceFault) → IsRefusal source found → (found ≡ fault.NoMemory) ⊎ HasCause source found
refusal_cause source (fault.Lex lex.NoMemory) is = absurd is
refusal_cause source (fault.Lex (lex.BadByte at)) is = inr (read_cause source (NoTokens (lex.BadByte at)) is)
refusal_cause source (fault.Lex (lex.Unclosed at)) is = inr (read_cause source (NoTokens (lex.Unclosed at)) is)
refusal_cause source (fault.Lex (lex.BigLiteral at)) is = inr (read_cause source (NoTokens (lex.BigLiteral at)) is)
refusal_cause source (fault.Syntax at) is = inr (read_cause source (NoTree Syntax at) is)
refusal_cause source (fault.Nested at) is = inr (read_cause source (NoTree Nested at) is)
refusal_cause source fault.TooLong is = inr is
refusal_cause source fault.NoMemory is = inl refl

pub refused_for : (source : List ℕ) (answer : Result Parsed SourceFault) → IfErr answer (IsRefusal source) → IfErr answer (λ found. (found ≡ fault.NoMemory) ⊎ HasCause source found)
refused_for source (Ok parsed) is = tt
refused_for source (Err found) is = refusal_cause source found is

-- ---- too high

nested_by : (answer : Result Tree SourceFault) (at : ℕ) → GivesRefusal answer (NoTree Nested at) → IsNested answer
nested_by (Ok tree) at gives = gives
nested_by (Err (fault.Nested place)) at gives = tt
nested_by (Err fault.NoMemory) at gives = tt
nested_by (Err (fault.Lex found)) at gives = elim gives [ inl e ↦ absurd cc | inr e ↦ absurd cc ]
nested_by (Err (fault.Syntax place)) at gives = elim gives [ inl e ↦ absurd cc | inr e ↦ absurd cc ]
nested_by (Err fault.TooLong) at gives = elim gives [ inl e ↦ absurd cc | inr e ↦ absurd cc ]

-- a tree of any height is answered or refused as nested
pub deep_answer : (source : List ℕ) (answer : Result Tree SourceFault) (tree : Tree) → HasDeepTree source tree → (HasTree source tree → GivesTree answer tree) → ((refused : Refused) → read_tree source ≡ Err refused → GivesRefusal answer refused) → GivesTree answer tree ⊎ IsNested answer
deep_answer source answer tree has gives refuses = elim (deep_is_nested source tree has) [
  | inl within ↦ inl (gives within)
  | inr nested ↦ inr (nested_by answer nested.0 (refuses (NoTree Nested nested.0) nested.1))
]
