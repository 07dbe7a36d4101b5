use Rattle.std.proofs.Common.{length, ap, ◌∙◌}
use Rattle.snap_store.specs.View.{View}
use Rattle.spec_values.proofs.Changes.{length-changed}
use Rattle.heap_rows.proofs.tests.stores.pushed.Goals as goal

pub returns : goal.returns
returns g c = ap (λ (view : View). length view.nodes) c.in_ok-push_element.ensures.ok ∙ length-changed _ _ _ ∙ ap (λ (view : View). length view.nodes) c.held_number.ensures.view
