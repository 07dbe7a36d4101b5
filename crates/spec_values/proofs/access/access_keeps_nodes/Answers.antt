use Rattle.spec_values.proofs.Standing.{delete_still, find_global_still, get_still, has_own_still, set_global_still, set_still}
use Rattle.spec_values.proofs.access.access_keeps_nodes.Goals as goal

pub returns : goal.returns
returns c = record { get = get_still; set = set_still; delete = delete_still; has_own = has_own_still; find_global = find_global_still; set_global = set_global_still }
