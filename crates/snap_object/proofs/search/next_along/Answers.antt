use Rattle.std.proofs.Common.{Some, ap, sym, ◌∙◌}
use Rattle.snap_object.proofs.Chains.{follows_node}
use Rattle.snap_object.proofs.search.next_along.Goals as goal

pub returns-in-Node : goal.returns-in-Node
returns-in-Node g c =
    follows_node (g.S.Store.view c.args.store.now).nodes (g.met.S.Store.few c.args.store.now) c.args.node c.in-Node.next (g.met.S.Store.lawful c.args.store.now) (c.prototype-prototype.ensures.meaning ∙ ap Some (sym c.in_ok-next.ensures ∙ c.in-Node.is))
