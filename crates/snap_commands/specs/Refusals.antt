-- Which sources are refused, and why.
use Rattle.std.specs.Prelude.{ℕ, nat_le, List, Option, Some, None, Result, Ok, Err, length, if◌then◌else◌}
use Rattle.std.specs.Option.{option_map}
use Rattle.snap_base.specs.declared.limits.TheConstants.{MOST_SOURCE_BYTES}
use Rattle.snap_ast.specs.declared.tree.Tree.{Tree}
use Rattle.spec_scopes.specs.EarlyErrors.{HasFault}
use Rattle.spec_scopes.specs.Told.{early_error}
use Rattle.spec_scopes.specs.declared.fault.ScopeFault.{ScopeFault}
use Rattle.spec_grammar.specs.Source.{HasTree, Refused, read_tree}
use Rattle.snap_parse.specs.Answers.{source_fault}
use Rattle.snap_parse.specs.Answers as parse
use Rattle.snap_parse.specs.declared.fault.SourceFault.TheVariants.{TooLong}
use Rattle.snap_commands.specs.declared.refused.SourceRefused.{SourceRefused}
use Rattle.snap_commands.specs.declared.refused.SourceRefused.TheVariants.{Parse, Scope}

-- why a source that is not too long is refused: it has no tree, or its tree has an early error
abbrev pub unaccepted : Result Tree Refused → Option SourceRefused
unaccepted (Ok tree) = option_map Scope (early_error tree)
unaccepted (Err refused) = Some (Parse (source_fault refused))

-- why a source is refused
unfoldable pub refusal : List ℕ → Option SourceRefused
refusal source = if nat_le (length source) MOST_SOURCE_BYTES then unaccepted (read_tree source) else Some (Parse TooLong)

-- the same as the language says it
abbrev pub HasCause : List ℕ → SourceRefused → Type 0
HasCause source (Parse fault) = parse.HasCause source fault
HasCause source (Scope fault) = (tree : Tree) × HasTree source tree × HasFault tree fault
