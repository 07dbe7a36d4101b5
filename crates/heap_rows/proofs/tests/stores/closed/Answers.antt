use Rattle.std.proofs.Common.{length, ap, ◌∙◌}
use Rattle.snap_store.specs.View.{View}
use Rattle.spec_values.proofs.Changes.{length-changed}
use Rattle.heap_rows.proofs.tests.stores.closed.Goals as goal

pub returns-in-Resource : goal.returns-in-Resource
returns-in-Resource g c = ap (λ (view : View). length view.nodes) c.close.ensures.view ∙ length-changed _ _ _
