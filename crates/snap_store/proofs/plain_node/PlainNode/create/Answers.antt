use Rattle.std.proofs.Common.{List, map, Some, ap, ◌∙◌}
use Rattle.snap_graph.specs.declared.value.Property.{Property}
use Rattle.snap_store.specs.Plain.{node_in, property_in}
use Rattle.snap_store.proofs.Placing.{put_behind}
use Rattle.snap_store.proofs.plain_node.PlainNode.create.Goals as goal

pub returns-clause-means : goal.returns-clause-means
returns-clause-means c = λ texts none.
    let node = node_in texts c.args.self.now in
    ap (λ (ps : List Property). record { kind = node.kind; prototype = node.prototype; frozen = node.frozen; properties = ps; elements = node.elements })
    (ap (map (property_in texts)) c.in_ok-push.ensures.items ∙ put_behind texts c.args.key c.args.value (Some c.args.known) c.args.self.now.properties.items none)
