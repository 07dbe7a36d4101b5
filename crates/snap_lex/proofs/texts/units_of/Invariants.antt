use Rattle.std.proofs.Common.{◌≡◌, ◌++◌, length}
use Rattle.spec_tokens.specs.Text.{units_from}
use Rattle.snap_lex.proofs.texts.units_of.Given as goal

-- the units so far, then those of what is left, are those of the items
abbrev pub invariant-loop-rest : goal.invariant-loop-rest
invariant-loop-rest l = l.units.items ++ units_from 0 l.rest ≡ units_from 0 l.items

abbrev pub decreases-loop-rest : goal.decreases-loop-rest
decreases-loop-rest l = length l.rest
