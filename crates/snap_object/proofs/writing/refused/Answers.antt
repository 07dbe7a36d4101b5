use Rattle.snap_graph.specs.declared.value.Value.TheVariants.{Text}
use Rattle.spec_values.specs.Access.{named_key, not_writable}
use Rattle.snap_action.proofs.Follows.{chained, cut_off}
use Rattle.snap_object.proofs.Growing.{refuses_grows}
use Rattle.snap_object.proofs.Naming.{known_on}
use Rattle.snap_object.proofs.writing.refused.Goals as goal

pub returns-in_err-named_key-clause-gives : goal.returns-in_err-named_key-clause-gives
returns-in_err-named_key-clause-gives g c =
    cut_off (named_key (Text c.args.name.now.text)) (λ name. not_writable) (λ name. refuses_grows) c.in_err-named_key.ensures.gives c.from_residual.result c.from_residual.ensures.1

pub returns-clause-gives : goal.returns-clause-gives
returns-clause-gives g c = chained g.met.S.Store.later_still (λ a b text h. g.met.S.Store.keeps_left_out a b text h) (named_key (Text c.args.name.now.text)) (λ name. not_writable) c.in_ok-named_key.ensures.gives c.type_error.ensures

pub returns-clause-kept : goal.returns-clause-kept
returns-clause-kept g c =
    known_on (g.S.Store.key_of c.named_key.new.store) (g.S.Store.key_of c.type_error.new.store) c.args.name.now c.named_key.new.name (g.met.S.Store.keeps_keys c.named_key.new.store c.type_error.new.store c.type_error.ensures.later) c.in_ok-named_key.ensures.kept
