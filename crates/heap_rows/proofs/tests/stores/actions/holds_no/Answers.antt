use Rattle.heap_rows.proofs.tests.stores.actions.holds_no.Goals as goal

pub own_property-requires-clause-key : goal.own_property-requires-clause-key
own_property-requires-clause-key g c = c.in_ok-key.ensures.gives.owned
