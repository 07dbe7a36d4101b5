use Rattle.std.proofs.Common.{length, refl, ap, arith}
use Rattle.snap_store.specs.declared.plain_node.PlainNode.{PlainNode}
use Rattle.snap_store.proofs.Keeping.{node_kept}
use Rattle.snap_arena.specs.Laws.{extends_still}
use Rattle.snap_store.proofs.plain_kept.kept_node.Goals as goal

pub returns-clause-kept : goal.returns-clause-kept
returns-clause-kept c =
    let node = c.args.node in
    let kept : PlainNode = record { kind = node.kind; prototype = c.in_ok-prototype.prototype; frozen = node.frozen; properties = c.in_ok-properties.properties; elements = c.in_ok-elements.elements } in
    node_kept c.kept_value.new.texts c.kept_properties.new.texts c.kept_values.new.texts kept node
    c.in_ok-prototype.ensures.kept c.kept_properties.ensures.texts c.in_ok-properties.ensures.kept c.kept_values.ensures.texts c.in_ok-elements.ensures.kept
    refl refl (omega (arith, ap length c.as_slice.ensures, c.if-as_slice.false))

pub returns-in_err-properties-clause-texts : goal.returns-in_err-properties-clause-texts
returns-in_err-properties-clause-texts c =
    extends_still c.args.texts.now c.kept_value.new.texts c.kept_properties.new.texts c.kept_value.ensures.texts c.kept_properties.ensures.texts

pub returns-in_err-elements-clause-texts : goal.returns-in_err-elements-clause-texts
returns-in_err-elements-clause-texts c =
    let two = extends_still c.args.texts.now c.kept_value.new.texts c.kept_properties.new.texts c.kept_value.ensures.texts c.kept_properties.ensures.texts in
    extends_still c.args.texts.now c.kept_properties.new.texts c.kept_values.new.texts two c.kept_values.ensures.texts

pub returns-clause-texts : goal.returns-clause-texts
returns-clause-texts c =
    let two = extends_still c.args.texts.now c.kept_value.new.texts c.kept_properties.new.texts c.kept_value.ensures.texts c.kept_properties.ensures.texts in
    extends_still c.args.texts.now c.kept_properties.new.texts c.kept_values.new.texts two c.kept_values.ensures.texts
