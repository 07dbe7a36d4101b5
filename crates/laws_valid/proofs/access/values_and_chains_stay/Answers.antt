use Rattle.spec_values.specs.Access.{delete, get, set}
use Rattle.spec_values.specs.Asking.{find_global, has_own, set_global}
use Rattle.spec_values.proofs.Standing.{delete_still, find_global_still, get_still, has_own_still, set_global_still, set_still}
use Rattle.laws_valid.proofs.Leaving.{left_stays}
use Rattle.laws_valid.proofs.Made.{function_stays, scope_stays, slot_stays}
use Rattle.laws_valid.proofs.access.values_and_chains_stay.Goals as goal

pub returns : goal.returns
returns c = record {
  get = λ base key heap. left_stays heap.nodes (get base key heap) (get_still base key heap);
  set = λ base key value heap. left_stays heap.nodes (set base key value heap) (set_still base key value heap);
  delete = λ base key heap. left_stays heap.nodes (delete base key heap) (delete_still base key heap);
  has_own = λ base key heap. left_stays heap.nodes (has_own base key heap) (has_own_still base key heap);
  find_global = λ global name heap. left_stays heap.nodes (find_global global name heap) (find_global_still global name heap);
  set_global = λ global name value heap. left_stays heap.nodes (set_global global name value heap) (set_global_still global name value heap);
  slot = slot_stays;
  function = function_stays;
  scope = scope_stays;
}
