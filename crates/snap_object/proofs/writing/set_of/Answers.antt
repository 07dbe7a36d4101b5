use Rattle.std.proofs.Common.{sym}
use Rattle.snap_graph.specs.declared.value.Value.TheVariants.{Text}
use Rattle.spec_values.specs.Access.{set}
use Rattle.snap_action.proofs.Follows.{at_same}
use Rattle.snap_object.proofs.writing.set_of.Goals as goal

pub returns-in-Text-clause-gives : goal.returns-in-Text-clause-gives
returns-in-Text-clause-gives g c = at_same (λ base. set base (Text c.args.name.now.text) (g.S.Store.meaning c.args.store.now c.args.held.now)) (sym c.in-Text.is) c.set_of_text.ensures.gives
