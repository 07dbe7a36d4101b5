use Rattle.std.proofs.Common.{◌≡◌, ◌≤◌, count_by, take}
use Rattle.spec_values.specs.Access.{is_there}
use Rattle.spec_values.specs.Operations.{elements_of}
use Rattle.snap_object.proofs.sizes.members.Given as goal

abbrev pub invariant-loop-i : goal.invariant-loop-i
invariant-loop-i g l = record {
  counted : l.count ≡ count_by is_there (take l.i (elements_of (g.S.Store.view l.store).nodes l.node));
  few : l.count ≤ l.i;
}
