use Rattle.std.proofs.Common.{sym}
use Rattle.snap_action.proofs.Follows.{at_same}
use Rattle.snap_object.specs.Parts.{write_where}
use Rattle.snap_object.specs.Search.{shown}
use Rattle.snap_object.proofs.writing.may_pass.Goals as goal

pub returns-in-Own-clause-gives : goal.returns-in-Own-clause-gives
returns-in-Own-clause-gives g c = at_same (λ found. write_where (shown (g.S.Store.meaning c.args.store.now) found)) (sym c.in-Own.is) c.unless_frozen.ensures.gives
