use Rattle.spec_values.proofs.Reading.{get_leaves, global_leaves, has_own_leaves}
use Rattle.spec_values.proofs.Writing.{delete_leaves, set_global_leaves, set_leaves}
use Rattle.spec_values.proofs.access.access_keeps_heaps.Goals as goal

pub returns : goal.returns
returns c = record { get = get_leaves; set = set_leaves; delete = delete_leaves; has_own = has_own_leaves; find_global = global_leaves; set_global = set_global_leaves }
