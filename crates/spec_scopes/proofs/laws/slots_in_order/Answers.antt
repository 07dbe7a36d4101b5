use Rattle.spec_scopes.proofs.InOrder.{own_in_order, script_in_order}
use Rattle.spec_scopes.proofs.laws.slots_in_order.Goals as goal

pub returns-clause-own : goal.returns-clause-own
returns-clause-own c = own_in_order

pub returns-clause-script : goal.returns-clause-script
returns-clause-script c = script_in_order
