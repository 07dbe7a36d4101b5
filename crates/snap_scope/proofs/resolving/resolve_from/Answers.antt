use Rattle.std.proofs.Common.{List, length, ap}
use Rattle.snap_ast.specs.declared.tree.TreeNode.{TreeNode}
use Rattle.snap_scope.proofs.Ends.{entries_right, scopes_right, started}
use Rattle.snap_scope.proofs.Errors.{none_left}
use Rattle.snap_scope.proofs.resolving.resolve_from.Goals as goal

pub visit_all-requires-clause-start : goal.visit_all-requires-clause-start
visit_all-requires-clause-start c =
    started c.args.tree.now (length c.as_slice.result.now) c.args.slots c.in-Ok.pass c.requires.lawful (ap (λ (l : List TreeNode). length l) c.as_slice.ensures) c.requires.slots c.requires.apart c.in-Ok.ensures

pub of-requires-clause-entries : goal.of-requires-clause-entries
of-requires-clause-entries c =
    entries_right c.args.tree.now c.requires.lawful c.visit_all.new.pass.chains c.visit_all.new.pass.contexts.items c.visit_all.new.pass.entries.items c.visit_all.new.pass.places.items c.in-Ok-visit_all.ensures.ok

pub returns-in-Ok-visit_all-clause-scopes : goal.returns-in-Ok-visit_all-clause-scopes
returns-in-Ok-visit_all-clause-scopes c =
    scopes_right c.args.tree.now c.requires.lawful c.visit_all.new.pass.chains c.visit_all.new.pass.contexts.items c.visit_all.new.pass.entries.items c.visit_all.new.pass.places.items c.in-Ok-visit_all.ensures.ok c.of.result c.of.ensures

pub returns-in-Ok-visit_all-clause-none : goal.returns-in-Ok-visit_all-clause-none
returns-in-Ok-visit_all-clause-none c =
    none_left c.args.tree.now c.visit_all.new.pass.chains c.visit_all.new.pass.contexts.items c.visit_all.new.pass.entries.items c.visit_all.new.pass.places.items c.in-Ok-visit_all.ensures.ok
