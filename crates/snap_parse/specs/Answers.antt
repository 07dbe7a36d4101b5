-- What the parser answers beside what a source is read as.
use Rattle.std.specs.Prelude.{◌≡◌, ℕ, ◌<◌, ◌⊎◌, List, length, Result, Ok, Err}
use Rattle.snap_base.specs.declared.limits.TheConstants.{MOST_SOURCE_BYTES}
use Rattle.snap_ast.specs.declared.tree.Tree.{Tree}
use Rattle.spec_tokens.specs.declared.fault.LexFault.TheVariants as lex
use Rattle.spec_grammar.specs.Outcome.{Nested, Syntax}
use Rattle.spec_grammar.specs.Source.{HasDeepTree, HasTree, NoTokens, NoTree, Refused, read_tree}
use Rattle.spec_tokens.specs.Faults.{HasFault}
use Rattle.snap_cursor.specs.declared.fault.ReadFault.{ReadFault}
use Rattle.snap_cursor.specs.declared.fault.ReadFault.TheVariants as reason
use Rattle.snap_parse.specs.declared.fault.SourceFault.{SourceFault}
use Rattle.snap_parse.specs.declared.fault.SourceFault.TheVariants as fault
use Rattle.snap_parse.specs.declared.parser.Parsed.{Parsed}

-- why there is no tree, with the place
abbrev pub fault_of : ReadFault → ℕ → SourceFault
fault_of reason.Syntax at = fault.Syntax at
fault_of reason.Nested at = fault.Nested at
fault_of reason.NoMemory at = fault.NoMemory

-- the answer is the outcome, unless memory runs out
abbrev pub Answers : Result Tree Refused → Result Tree SourceFault → Type 0
Answers outcome (Ok tree) = outcome ≡ Ok tree
Answers outcome (Err (fault.Lex lex.NoMemory)) = ⊥
Answers outcome (Err (fault.Lex found)) = outcome ≡ Err (NoTokens found)
Answers outcome (Err (fault.Syntax at)) = outcome ≡ Err (NoTree Syntax at)
Answers outcome (Err (fault.Nested at)) = outcome ≡ Err (NoTree Nested at)
Answers outcome (Err fault.TooLong) = ⊥
Answers outcome (Err fault.NoMemory) = Unit {0}

-- A fault that is answered is why the source is read as no tree. Want of memory is never inside another fault.
abbrev pub IsRefusal : List ℕ → SourceFault → Type 0
IsRefusal source (fault.Lex lex.NoMemory) = ⊥
IsRefusal source (fault.Lex found) = read_tree source ≡ Err (NoTokens found)
IsRefusal source (fault.Syntax at) = read_tree source ≡ Err (NoTree Syntax at)
IsRefusal source (fault.Nested at) = read_tree source ≡ Err (NoTree Nested at)
IsRefusal source fault.TooLong = MOST_SOURCE_BYTES < length source
IsRefusal source fault.NoMemory = Unit {0}

-- why a source has no tree, as the language says it: no tokens, no tree of any height, none within the levels, or too many bytes
abbrev pub HasCause : List ℕ → SourceFault → Type 0
HasCause source (fault.Lex found) = HasFault source found
HasCause source (fault.Syntax at) = (tree : Tree) → HasDeepTree source tree → ⊥
HasCause source (fault.Nested at) = (tree : Tree) → HasTree source tree → ⊥
HasCause source fault.TooLong = MOST_SOURCE_BYTES < length source
HasCause source fault.NoMemory = ⊥

-- the tree that comes with the tokens of a source
abbrev pub tree_in : Result Parsed SourceFault → Result Tree SourceFault
tree_in (Ok parsed) = Ok parsed.tree
tree_in (Err fault) = Err fault

-- a tree that is too high is refused as such, or memory ran out
abbrev pub IsNested : Result Tree SourceFault → Type 0
IsNested (Ok tree) = ⊥
IsNested (Err (fault.Nested at)) = Unit {0}
IsNested (Err fault.NoMemory) = Unit {0}
IsNested (Err (fault.Lex found)) = ⊥
IsNested (Err (fault.Syntax at)) = ⊥
IsNested (Err fault.TooLong) = ⊥

-- this tree is answered, or that memory ran out
abbrev pub GivesTree : Result Tree SourceFault → Tree → Type 0
GivesTree (Ok found) tree = found ≡ tree
GivesTree (Err found) tree = found ≡ fault.NoMemory

abbrev pub source_fault : Refused → SourceFault
source_fault (NoTokens found) = fault.Lex found
source_fault (NoTree Syntax at) = fault.Syntax at
source_fault (NoTree Nested at) = fault.Nested at

-- this refusal is answered, or that memory ran out
abbrev pub GivesRefusal : Result Tree SourceFault → Refused → Type 0
GivesRefusal (Ok tree) refused = ⊥
GivesRefusal (Err found) refused = (found ≡ source_fault refused) ⊎ (found ≡ fault.NoMemory)
