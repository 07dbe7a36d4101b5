use Rattle.std.proofs.Common.{subst, sym}
use Rattle.std.proofs.lemmas.List.Elements.{All-push}
use Rattle.snap_store.specs.Keyed.{AreNodesKeyed, IsNodeKeyed}
use Rattle.snap_arena.specs.Laws.{extends_still}
use Rattle.snap_store.proofs.Keeping.{nodes_step}
use Rattle.snap_store.proofs.plain_kept.kept_nodes.Goals as goal

pub loop-node-preserved : goal.loop-node-preserved
loop-node-preserved c =
    let before = c.loop-node.texts in
    let after = c.kept_node.new.texts in (
      extends_still c.args.texts.now before after c.loop-node.invariant.0 c.kept_node.ensures.texts,
      nodes_step before after c.loop-node.kept.items c.push.new.self.items c.loop-node.yielded c.in_ok-kept_node.field-0 c.in-Some.node
          c.loop-node.invariant.1 c.kept_node.ensures.texts c.in_ok-kept_node.ensures.kept c.in_ok-push.ensures.items,
      λ key_of. subst (AreNodesKeyed key_of) (sym c.in_ok-push.ensures.items) (All-push (IsNodeKeyed key_of) c.loop-node.kept.items c.in_ok-kept_node.field-0 (c.loop-node.invariant.2 key_of) (c.in_ok-kept_node.ensures.keyed key_of)),
    )

pub returns-in_err-kept_node-clause-texts : goal.returns-in_err-kept_node-clause-texts
returns-in_err-kept_node-clause-texts c = extends_still c.args.texts.now c.loop-node.texts c.kept_node.new.texts c.loop-node.invariant.0 c.kept_node.ensures.texts

pub returns-in_err-push-clause-texts : goal.returns-in_err-push-clause-texts
returns-in_err-push-clause-texts c = extends_still c.args.texts.now c.loop-node.texts c.kept_node.new.texts c.loop-node.invariant.0 c.kept_node.ensures.texts
