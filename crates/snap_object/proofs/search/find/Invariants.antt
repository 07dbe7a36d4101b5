use Rattle.std.proofs.Common.{◌≡◌, ◌<◌, length}
use Rattle.spec_values.specs.Access.{reached_from}
use Rattle.snap_object.specs.Search.{found_along}
use Rattle.snap_object.proofs.search.find.Given as goal

abbrev pub invariant-along : goal.invariant-along
invariant-along g l = record {
  within : l.node < length (g.S.Store.view l.store).nodes;
  along : found_along (g.S.Store.view l.store).nodes l.text (reached_from (g.S.Store.view l.store).nodes l.node) ≡ found_along (g.S.Store.view l.store).nodes l.text (reached_from (g.S.Store.view l.store).nodes l.fn.from);
}

abbrev pub decreases-along : goal.decreases-along
decreases-along g l = length (reached_from (g.S.Store.view l.store).nodes l.node)
