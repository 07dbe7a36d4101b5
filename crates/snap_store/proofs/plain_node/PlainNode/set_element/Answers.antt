use Rattle.std.proofs.Common.{List, ap}
use Rattle.snap_graph.specs.declared.value.Value.{Value}
use Rattle.snap_store.specs.Plain.{node_in, value_in}
use Rattle.std.proofs.lemmas.List.{map-set}
use Rattle.snap_store.proofs.plain_node.PlainNode.set_element.Goals as goal

pub returns-clause-means : goal.returns-clause-means
returns-clause-means c = λ texts.
    let node = node_in texts c.args.self.now in
    ap (λ (vs : List Value). record { kind = node.kind; prototype = node.prototype; frozen = node.frozen; properties = node.properties; elements = vs })
    (map-set (value_in texts) c.args.self.now.elements.items c.args.place c.args.value)
