use Rattle.spec_values.proofs.Using.{delete_uses, find_global_uses, get_uses, has_own_uses, set_global_uses, set_uses}
use Rattle.spec_values.proofs.access.access_uses_its_key_once.Goals as goal

pub returns : goal.returns
returns c = record { get = get_uses; set = set_uses; delete = delete_uses; has_own = has_own_uses; find_global = find_global_uses; set_global = set_global_uses }
