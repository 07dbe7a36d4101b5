use Rattle.std.proofs.Common.{sym, ◌∙◌}
use Rattle.laws_valid.proofs.Made.{function_made, function_node, function_valid, stopped_made}
use Rattle.laws_valid.proofs.making.functions_are_made_valid.Goals as goal

pub returns : goal.returns
returns c = record {
  valid = function_valid;
  stopped = λ script number scope heap after why e. stopped_made heap after (function_node script number scope) why (sym (function_made script number scope heap) ∙ e);
}
