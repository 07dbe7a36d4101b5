use Rattle.std.proofs.Common.{refl}
use Rattle.snap_base.specs.declared.stop.Stop.TheVariants.{NotInProfile}
use Rattle.snap_graph.specs.declared.value.Value.TheVariants.{Text}
use Rattle.spec_values.specs.Access.{named_key}
use Rattle.spec_values.specs.Answer.{stop}
use Rattle.snap_action.specs.Gives.{as_is}
use Rattle.snap_action.proofs.Follows.{chained, cut, stopped}
use Rattle.snap_action.proofs.Growing.{stop_grows}
use Rattle.snap_object.proofs.outside.outside.Goals as goal

pub returns-in-Ok-clause-gives : goal.returns-in-Ok-clause-gives
returns-in-Ok-clause-gives g c =
    chained g.met.S.Store.later_still (λ a b text h. g.met.S.Store.keeps_left_out a b text h) (named_key (Text c.args.name.now.text)) (λ name. stop NotInProfile) c.in-Ok.ensures.gives (stopped (record { view = refl; later = g.met.S.Store.at_once c.named_key.new.store }) NotInProfile)

pub returns-in-Err-clause-gives : goal.returns-in-Err-clause-gives
returns-in-Err-clause-gives g c = cut as_is c.in-Err.fault (named_key (Text c.args.name.now.text)) (λ name. stop NotInProfile) (λ name. stop_grows NotInProfile) c.in-Err.ensures.gives
