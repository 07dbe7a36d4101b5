use Rattle.std.proofs.Common.{◌≡◌, [], false, length}
use Rattle.spec_grammar.specs.Parts.{names_from}
use Rattle.snap_cursor.proofs.names.names.Given as goal

-- reading goes on from here
abbrev pub invariant-names : goal.invariant-names
invariant-names l = names_from l.close l.may_lack false [] l.fn.cursor ≡ names_from l.close l.may_lack l.is_behind l.found.items l.cursor

abbrev pub decreases-names : goal.decreases-names
decreases-names l = length l.cursor
