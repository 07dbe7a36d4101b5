use Rattle.std.proofs.Common.{length, ap, ◌∙◌}
use Rattle.snap_store.specs.View.{View}
use Rattle.spec_values.proofs.Changes.{length-changed}
use Rattle.heap_rows.proofs.tests.stores.removed.Goals as goal

pub returns : goal.returns
returns g c = ap (λ (view : View). length view.nodes) (c.in_ok-remove_own.ensures.ok c.args.units.now c.in_ok-key.ensures.key) ∙ length-changed _ _ _ ∙ ap length c.key_of.ensures.nodes
