use Rattle.spec_values.specs.Access.{delete, get, set}
use Rattle.spec_values.specs.Asking.{find_global, has_own, set_global}
use Rattle.spec_values.proofs.Reading.{get_gives, get_leaves, global_gives, global_leaves, has_own_leaves}
use Rattle.spec_values.proofs.Writing.{delete_leaves, set_global_leaves, set_leaves}
use Rattle.laws_valid.proofs.Asking.{find_global_ends, has_own_ends, set_global_ends}
use Rattle.laws_valid.proofs.Leaving.{any_valid, callable_valid, option_valid, type_valid, value_valid}
use Rattle.laws_valid.proofs.Reading.{get_ends}
use Rattle.laws_valid.proofs.Writing.{delete_ends, set_ends}
use Rattle.laws_valid.proofs.access.accesses_keep_graphs_valid.Goals as goal

pub returns : goal.returns
returns c = record {
  get = λ scripts base key heap valid. value_valid scripts (get base key heap) (get_leaves base key heap valid.lawful) (get_gives base key heap valid.lawful) (get_ends scripts base key heap valid.each);
  set = λ scripts base key value heap valid is_key is_value.
      any_valid scripts (set base key value heap) (set_leaves base key value heap valid.lawful is_key is_value.0) (set_ends scripts base key value heap valid.each is_value.1);
  delete = λ scripts base key heap valid. any_valid scripts (delete base key heap) (delete_leaves base key heap valid.lawful) (delete_ends scripts base key heap valid.each);
  has_own = λ scripts base key heap valid. any_valid scripts (has_own base key heap) (has_own_leaves base key heap valid.lawful) (has_own_ends scripts base key heap valid.each);
  find_global = λ scripts global name heap valid.
      option_valid scripts (find_global global name heap) (global_leaves global name heap valid.lawful) (global_gives global name heap valid.lawful) (find_global_ends scripts global name heap valid.each);
  set_global = λ scripts global name value heap valid is_value no_array.
      any_valid scripts (set_global global name value heap) (set_global_leaves global name value heap valid.lawful is_value.0 no_array) (set_global_ends scripts global name value heap valid.each is_value.1);
  type_of = type_valid;
  is_callable = callable_valid;
}
