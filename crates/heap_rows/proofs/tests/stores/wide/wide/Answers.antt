use Rattle.std.proofs.Common.{◌≡◌, sym, subst, ◌∙◌}
use Rattle.snap_graph.specs.Lawful.{IsLawful}
use Rattle.heap_rows.specs.Wide.{wide}
use Rattle.heap_rows.proofs.Wide.{wide_is, wide_lawful}
use Rattle.heap_rows.proofs.tests.stores.wide.wide.Goals as goal

pub returns-clause-lawful : goal.returns-clause-lawful
returns-clause-lawful c =
    let is : c.from_vec-3.result ≡ wide c.args.count =
    c.from_vec-3.ensures ∙ c.in_ok-push.ensures.items
    ∙ wide_is c.args.count c.into_vec-nodes.result.items c.from_vec.result c.from_vec-2.result (c.into_vec-nodes.ensures ∙ c.in_ok-intrinsics.ensures) (c.from_vec.ensures ∙ c.in_ok-properties.ensures) (c.from_vec-2.ensures ∙ c.new.ensures.items) in
    subst IsLawful (sym is) (wide_lawful c.intrinsics_are_a_heap.ensures.lawful c.making_keeps_heaps.ensures c.properties_keep_heaps.ensures.put c.args.count)
