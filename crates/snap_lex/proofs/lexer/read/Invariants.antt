use Rattle.std.proofs.Common.{◌≡◌, ◌+◌, ◌≤◌, length, false}
use Rattle.snap_base.specs.declared.limits.TheConstants.{MOST_SOURCE_BYTES}
use Rattle.spec_tokens.specs.Tokens.{lexemes_from, prepend}
use Rattle.snap_lex.specs.View.{views}
use Rattle.snap_lex.proofs.lexer.read.Given as goal

-- the tokens so far, then those of what is left, are those of the source
abbrev pub invariant-loop-rest : goal.invariant-loop-rest
invariant-loop-rest l =
    (prepend (views l.list.items) (lexemes_from 0 l.at l.newline l.rest) ≡ lexemes_from 0 0 false l.source) × (l.at + length l.rest ≡ length l.source) × (length l.source ≤ MOST_SOURCE_BYTES)

abbrev pub decreases-loop-rest : goal.decreases-loop-rest
decreases-loop-rest l = length l.rest
