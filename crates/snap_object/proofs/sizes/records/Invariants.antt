use Rattle.std.proofs.Common.{◌≡◌, ◌≤◌, count_by, take}
use Rattle.snap_graph.specs.Lawful.{record_keys}
use Rattle.spec_values.specs.Access.{is_there}
use Rattle.spec_values.specs.Operations.{elements_of}
use Rattle.snap_object.proofs.sizes.records.Given as goal

abbrev pub invariant-loop-i : goal.invariant-loop-i
invariant-loop-i g l = record {
  counted : l.count ≡ count_by is_there (take l.i (record_keys (elements_of (g.S.Store.view l.store).nodes l.node)));
  few : l.count ≤ l.i;
}
