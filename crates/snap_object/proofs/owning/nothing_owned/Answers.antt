use Rattle.std.proofs.Common.{codes}
use Rattle.snap_graph.specs.declared.intrinsic.TheConstants.{TYPE_ERROR_PROTOTYPE}
use Rattle.snap_graph.specs.declared.value.Value.TheVariants.{Text}
use Rattle.spec_values.specs.Access.{named_key, no_properties}
use Rattle.snap_action.specs.Gives.{as_is}
use Rattle.snap_action.proofs.Follows.{chained, cut}
use Rattle.snap_action.proofs.Growing.{error_grows}
use Rattle.snap_object.proofs.Naming.{known_on}
use Rattle.snap_object.proofs.owning.nothing_owned.Goals as goal

pub returns-in-Ok-clause-gives : goal.returns-in-Ok-clause-gives
returns-in-Ok-clause-gives g c =
    chained g.met.S.Store.later_still (λ a b text h. g.met.S.Store.keeps_left_out a b text h) (named_key (Text c.args.name.now.text)) (λ name. no_properties) c.in-Ok.ensures.gives c.type_error.ensures

pub returns-in-Ok-clause-kept : goal.returns-in-Ok-clause-kept
returns-in-Ok-clause-kept g c =
    known_on (g.S.Store.key_of c.named_key.new.store) (g.S.Store.key_of c.type_error.new.store) c.args.name.now c.named_key.new.name (g.met.S.Store.keeps_keys c.named_key.new.store c.type_error.new.store c.type_error.ensures.later) c.in-Ok.ensures.kept

pub returns-in-Err-clause-gives : goal.returns-in-Err-clause-gives
returns-in-Err-clause-gives g c =
    cut as_is c.in-Err.fault (named_key (Text c.args.name.now.text)) (λ name. no_properties) (λ name. error_grows TYPE_ERROR_PROTOTYPE (codes "no properties")) c.in-Err.ensures.gives
