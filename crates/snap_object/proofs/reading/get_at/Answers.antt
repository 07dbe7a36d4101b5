use Rattle.std.proofs.Common.{sym}
use Rattle.spec_values.specs.Access.{get}
use Rattle.snap_action.proofs.Follows.{at_same}
use Rattle.snap_object.proofs.reading.get_at.Goals as goal

pub returns-in-Node : goal.returns-in-Node
returns-in-Node g c = at_same (λ base. get base c.args.key.now) (sym c.in-Node.is) c.node_at.ensures
