use Rattle.std.proofs.Common.{◌≡◌, suc, ◌+◌, List, map, refl, ap, ◌∙◌, arith}
use Rattle.snap_graph.specs.declared.value.Property.{Property}
use Rattle.snap_store.specs.Plain.{node_in, property_in}
use Rattle.snap_store.proofs.Placing.{remove_at}
use Rattle.snap_store.proofs.plain_node.PlainNode.remove.Goals as goal

pub returns-clause-means : goal.returns-clause-means
returns-clause-means c = λ texts key at apart.
    let node = node_in texts c.args.self.now in
    let next : c.args.place + 1 ≡ suc c.args.place = omega arith in
    ap (λ (ps : List Property). record { kind = node.kind; prototype = node.prototype; frozen = node.frozen; properties = ps; elements = node.elements })
    (ap (map (property_in texts)) (c.remove-property.ensures.by_index.2 ∙ rw next refl) ∙ remove_at texts key c.args.self.now.properties.items c.args.place at apart)
