use Rattle.std.proofs.Common.{sym}
use Rattle.spec_values.specs.Access.{or_stop}
use Rattle.spec_values.specs.declared.operator.UnaryOp.{UnaryOp}
use Rattle.spec_values.specs.Operators.{unary_value}
use Rattle.snap_action.proofs.Follows.{at_same}
use Rattle.snap_apply.proofs.operators.apply_unary.Goals as goal

pub returns-in-Not-clause-gives : goal.returns-in-Not-clause-gives
returns-in-Not-clause-gives g c = at_same (λ (op : UnaryOp). or_stop (unary_value op (g.S.Store.meaning c.args.store.now c.args.held.now))) (sym c.in-Not.is) c.hold_untruth.ensures.gives
