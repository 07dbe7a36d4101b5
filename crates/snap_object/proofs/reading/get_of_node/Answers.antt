use Rattle.std.proofs.Common.{ℕ, Option, sym, ◌∙◌}
use Rattle.snap_graph.specs.declared.value.Value.TheVariants.{Text}
use Rattle.spec_values.specs.Access.{get_of_node}
use Rattle.snap_action.proofs.Follows.{at_same}
use Rattle.snap_object.proofs.reading.get_of_node.Goals as goal

pub returns-in-Some-clause-gives : goal.returns-in-Some-clause-gives
returns-in-Some-clause-gives g c = at_same (λ (place : Option ℕ). get_of_node c.args.node (Text c.args.name.now.text) place) (sym (sym c.element_of.ensures ∙ c.in-Some.is)) c.element_at.ensures

pub returns-in-None-clause-gives : goal.returns-in-None-clause-gives
returns-in-None-clause-gives g c = at_same (λ (place : Option ℕ). get_of_node c.args.node (Text c.args.name.now.text) place) (sym (sym c.element_of.ensures ∙ c.in-None.is)) c.named_of_node.ensures.gives
