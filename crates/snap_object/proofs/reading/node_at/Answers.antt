use Rattle.std.proofs.Common.{sym, ap, ◌∙◌}
use Rattle.spec_values.specs.Access.{get, is_array}
use Rattle.snap_action.proofs.Follows.{at_same}
use Rattle.snap_object.proofs.Finding.{by_element}
use Rattle.snap_object.proofs.reading.node_at.Goals as goal

pub returns-then-is_array : goal.returns-then-is_array
returns-then-is_array g c = by_element c.args.node c.args.key.now c.args.place (ap is_array c.kind.ensures ∙ (sym c.is_array.ensures ∙ c.if-is_array.true)) c.requires.place c.element_at.ensures

pub returns-else-is_array : goal.returns-else-is_array
returns-else-is_array g c = at_same (λ base. get base c.args.key.now) c.requires.base c.get_spelled.ensures
