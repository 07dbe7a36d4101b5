use Rattle.std.proofs.Common.{List, ap, ◌∙◌}
use Rattle.snap_graph.specs.declared.value.Property.{Property}
use Rattle.snap_store.specs.declared.plain_node.PlainProperty.{PlainProperty}
use Rattle.snap_store.specs.Plain.{node_in}
use Rattle.snap_store.proofs.Placing.{put_at}
use Rattle.snap_store.proofs.plain_node.PlainNode.write.Goals as goal

pub returns-clause-means : goal.returns-clause-means
returns-clause-means c = λ texts key at.
    let node = node_in texts c.args.self.now in
    let own = c.index_mut.ensures.value in
    ap (λ (ps : List Property). record { kind = node.kind; prototype = node.prototype; frozen = node.frozen; properties = ps; elements = node.elements })
    (put_at texts key c.args.value c.index_mut.result.now.key c.index_mut.result.now.known c.args.self.now.properties.items c.args.place (ap (λ (p : PlainProperty). p.key) own ∙ at.2 c.index_mut.result.now) at)
