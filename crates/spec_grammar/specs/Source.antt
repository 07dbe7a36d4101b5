-- Which trees a source has.
use Rattle.std.specs.Prelude.{◌≡◌, ℕ, ◌≤◌, List, [], ◌∷◌, length, Result, Ok, Err}
use Rattle.spec_tokens.specs.Laws.{AreTokens}
use Rattle.spec_tokens.specs.Tokens.{Lexeme, lexemes}
use Rattle.spec_tokens.specs.declared.fault.LexFault.{LexFault}
use Rattle.snap_ast.specs.Lawful.{most_levels}
use Rattle.snap_ast.specs.declared.tree.Tree.{Tree}
use Rattle.spec_grammar.specs.Grammar.{IsScript}
use Rattle.spec_grammar.specs.Numbered.{tree_of}
use Rattle.spec_grammar.specs.Outcome.{Cause, Outcome}
use Rattle.spec_grammar.specs.Phrase.{Row, nothing, row_on}
use Rattle.spec_grammar.specs.Read.{script}

-- a source has tokens, and these are the statements of a script that they are
pub record IsSource (source : List ℕ) (row : Row ℕ) : Type 0 where
  pub tokens : List Lexeme
  pub cut : AreTokens source tokens
  pub statements : IsScript (row_on nothing) tokens row

-- a tree of a source, of any height
abbrev pub HasDeepTree : List ℕ → Tree → Type 0
HasDeepTree source tree = (row : Row ℕ) × IsSource source row × (tree ≡ tree_of row)

-- a tree of a source, within the levels
abbrev pub HasTree : List ℕ → Tree → Type 0
HasTree source tree = (row : Row ℕ) × IsSource source row × (row.below.height ≤ most_levels) × (tree ≡ tree_of row)

-- ---- the same, as it is read

-- why a source has no tree that is read
pub data Refused : Type 0 where
  NoTokens : LexFault → Refused
  NoTree : Cause → ℕ → Refused

-- the place of the next token, where the source ends at another
abbrev pub place_at : ℕ → List Lexeme → ℕ
place_at end [] = end
place_at end (lexeme ∷ rest) = lexeme.at

abbrev pub tree_by : ℕ → Outcome (Row ℕ) → Result Tree Refused
tree_by end (Ok found) = Ok (tree_of found.0)
tree_by end (Err refusal) = Err (NoTree refusal.cause (place_at end refusal.at))

abbrev pub tree_among : ℕ → Result (List Lexeme) LexFault → Result Tree Refused
tree_among end (Ok tokens) = tree_by end (script tokens)
tree_among end (Err fault) = Err (NoTokens fault)

-- the tree of a source, or why there is none
unfoldable pub read_tree : List ℕ → Result Tree Refused
read_tree source = tree_among (length source) (lexemes source)
