use Rattle.std.proofs.Common.{sym, ◌∙◌}
use Rattle.laws_valid.proofs.Made.{scope_inside, scope_made, scope_node, scope_valid, stopped_made}
use Rattle.laws_valid.proofs.making.scopes_are_made_valid.Goals as goal

pub returns : goal.returns
returns c = record {
  valid = scope_valid;
  chain = scope_inside;
  stopped = λ kind outer slots heap after why e. stopped_made heap after (scope_node kind outer slots) why (sym (scope_made kind outer slots heap) ∙ e);
}
