-- Sources: what is read and what the grammar has are the same.
use Rattle.std.proofs.Common.{◌≡◌, ℕ, ◌≤◌, ◌<◌, ◌⊎◌, inl, inr, List, [], length, refl, sym, ◌∙◌, subst, ap, arith}
use Rattle.std.specs.Prelude.{Result, Ok, Err}
use Rattle.spec_tokens.proofs.Reading.{list_is_read}
use Rattle.spec_tokens.proofs.Sound.{list_is_cut}
use Rattle.spec_tokens.specs.Laws.{AreTokens}
use Rattle.spec_tokens.specs.Tokens.{Lexeme, lexemes}
use Rattle.spec_tokens.specs.declared.fault.LexFault.{LexFault}
use Rattle.snap_ast.specs.Lawful.{most_levels}
use Rattle.snap_ast.specs.declared.tree.Tree.{Tree}
use Rattle.spec_grammar.proofs.Finds.{Finds, IsNested, le_or_lt}
use Rattle.spec_grammar.proofs.Scripts.{one_script, script_found, script_gives}
use Rattle.spec_grammar.specs.Grammar.{IsScript}
use Rattle.spec_grammar.specs.Numbered.{tree_of}
use Rattle.spec_grammar.specs.Outcome.{Nested, Syntax, Outcome}
use Rattle.spec_grammar.specs.Phrase.{Row, nothing, row_on}
use Rattle.spec_grammar.specs.Read.{script}
use Rattle.spec_grammar.specs.Source.{HasDeepTree, HasTree, NoTree, Refused, place_at, read_tree, tree_among, tree_by}

script_of : {row : Row ℕ} (tokens : List Lexeme) → IsScript (row_on nothing) tokens row → Finds most_levels row.below.height (script tokens) row []
unfolding script
script_of tokens d = script_found d (length tokens) (omega arith) (omega arith)

among : (source : List ℕ) (tokens : List Lexeme) → AreTokens source tokens → read_tree source ≡ tree_by (length source) (script tokens)
unfolding read_tree
among source tokens cut = rw (list_is_read source tokens cut) refl

pub tree_is_read : (source : List ℕ) (tree : Tree) → HasTree source tree → read_tree source ≡ Ok tree
tree_is_read source tree has =
    let is = has.1 in
    let found = script_of is.tokens is.statements in
    among source is.tokens is.cut ∙ (rw (found.fits has.2, has.3) refl)

nested_by : (end : ℕ) (outcome : Outcome (Row ℕ)) → IsNested outcome → (at : ℕ) × (tree_by end outcome ≡ Err (NoTree Nested at))
nested_by end (Ok found) nested = absurd nested
nested_by end (Err refusal) nested = (place_at end refusal.at, rw nested refl)

pub deep_is_nested : (source : List ℕ) (tree : Tree) → HasDeepTree source tree → HasTree source tree ⊎ ((at : ℕ) × (read_tree source ≡ Err (NoTree Nested at)))
deep_is_nested source tree has = by_height (le_or_lt has.0.below.height most_levels) where
  by_height : (has.0.below.height ≤ most_levels) ⊎ (most_levels < has.0.below.height) → HasTree source tree ⊎ ((at : ℕ) × (read_tree source ≡ Err (NoTree Nested at)))
  by_height (inl h) = inl (has.0, has.1, h, has.2)
  by_height (inr h) =
      let is = has.1 in
      let found = script_of is.tokens is.statements in
      let nested = nested_by (length source) (script is.tokens) (found.over h) in
      inr (nested.0, among source is.tokens is.cut ∙ nested.1)

one_answer : {read : Result Tree Refused} {tree : Tree} {refused : Refused} → read ≡ Ok tree → read ≡ Err refused → ⊥
one_answer is refused = absurd cc

pub refused_has_none : (source : List ℕ) (refused : Refused) (tree : Tree) → read_tree source ≡ Err refused → HasTree source tree → ⊥
refused_has_none source refused tree e has = one_answer (tree_is_read source tree has) e

syntax_not_nested : {read : Result Tree Refused} {one two : ℕ} → read ≡ Err (NoTree Syntax one) → read ≡ Err (NoTree Nested two) → ⊥
syntax_not_nested e f = absurd cc

pub syntax_has_none : (source : List ℕ) (at : ℕ) (tree : Tree) → read_tree source ≡ Err (NoTree Syntax at) → HasDeepTree source tree → ⊥
syntax_has_none source at tree e has = by_kind (deep_is_nested source tree has) where
  by_kind : HasTree source tree ⊎ ((at : ℕ) × (read_tree source ≡ Err (NoTree Nested at))) → ⊥
  by_kind (inl has) = refused_has_none source (NoTree Syntax at) tree e has
  by_kind (inr nested) = syntax_not_nested e nested.1

one_list : {read : Result (List Lexeme) LexFault} {one two : List Lexeme} → read ≡ Ok one → read ≡ Ok two → one ≡ two
one_list e f = cc

pub one_tree : (source : List ℕ) (tree other : Tree) → HasDeepTree source tree → HasDeepTree source other → tree ≡ other
one_tree source tree other has second =
    let is = has.1 in
    let too = second.1 in
    let same = one_list (list_is_read source is.tokens is.cut) (list_is_read source too.tokens too.cut) in
    let rows = one_script is.statements (subst (λ tokens. IsScript (row_on nothing) tokens second.0) (sym same) too.statements) in
    has.2 ∙ ap tree_of rows ∙ sym second.2

-- ---- what is read is a tree

tree_or : Tree → Result Tree Refused → Tree
tree_or other (Ok tree) = tree
tree_or other (Err refused) = other

same_tree : {one two : Tree} → ◌≡◌ {A = Result Tree Refused} (Ok one) (Ok two) → two ≡ one
unfolding tree_or
same_tree {one = one} e = sym (ap (tree_or one) e)

not_nested : {found : Row ℕ × List Lexeme} (outcome : Outcome (Row ℕ)) → outcome ≡ Ok found → IsNested outcome → ⊥
not_nested (Ok found) e nested = nested
not_nested (Err refusal) e nested = absurd cc

script_is : (tokens : List Lexeme) (found : Row ℕ × List Lexeme) → script tokens ≡ Ok found → IsScript (row_on nothing) tokens found.0
unfolding script
script_is tokens found e = let given = script_gives (length tokens) (row_on nothing) tokens in given.given found.0 found.1 e

within : (tokens : List Lexeme) (found : Row ℕ × List Lexeme) → script tokens ≡ Ok found → IsScript (row_on nothing) tokens found.0 → (found.0.below.height ≤ most_levels) ⊎ (most_levels < found.0.below.height) → found.0.below.height ≤ most_levels
within tokens found e d (inl h) = h
within tokens found e d (inr h) = let read = script_of tokens d in absurd (not_nested (script tokens) e (read.over h))

tree_from : (source : List ℕ) (tokens : List Lexeme) (tree : Tree) (outcome : Outcome (Row ℕ)) → lexemes source ≡ Ok tokens → script tokens ≡ outcome → tree_by (length source) outcome ≡ Ok tree → HasTree source tree
tree_from source tokens tree (Ok found) cut e is =
    let d = script_is tokens found e in
    (found.0, record { tokens = tokens; cut = list_is_cut source tokens cut; statements = d }, within tokens found e d (le_or_lt found.0.below.height most_levels), same_tree is)
tree_from source tokens tree (Err refusal) cut e is = absurd cc

tree_of_tokens : (source : List ℕ) (tree : Tree) (read : Result (List Lexeme) LexFault) → lexemes source ≡ read → tree_among (length source) read ≡ Ok tree → HasTree source tree
tree_of_tokens source tree (Ok tokens) e is = tree_from source tokens tree (script tokens) e refl is
tree_of_tokens source tree (Err fault) e is = absurd cc

pub read_is_tree : (source : List ℕ) (tree : Tree) → read_tree source ≡ Ok tree → HasTree source tree
unfolding read_tree
read_is_tree source tree e = tree_of_tokens source tree (lexemes source) refl e
