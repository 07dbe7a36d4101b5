use Rattle.std.proofs.Common.{length, ap, ◌∙◌}
use Rattle.snap_store.specs.View.{View}
use Rattle.spec_values.proofs.Changes.{length-changed}
use Rattle.heap_rows.proofs.tests.stores.popped.Goals as goal

pub returns-in_err-value-in-Some : goal.returns-in_err-value-in-Some
returns-in_err-value-in-Some g c = ap (λ (view : View). length view.nodes) c.pop_element.ensures.view ∙ length-changed _ _ _

pub returns-in_ok-value-in-Some : goal.returns-in_ok-value-in-Some
returns-in_ok-value-in-Some g c = ap (λ (view : View). length view.nodes) c.pop_element.ensures.view ∙ length-changed _ _ _

pub returns-in-None : goal.returns-in-None
returns-in-None g c = ap (λ (view : View). length view.nodes) c.pop_element.ensures.view ∙ length-changed _ _ _
