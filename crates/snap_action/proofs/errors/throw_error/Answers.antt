use Rattle.snap_action.specs.Errors.{error_prototype}
use Rattle.snap_action.proofs.Throwing.{throws_made, throws_none}
use Rattle.snap_action.proofs.errors.throw_error.Goals as goal

pub returns-in-Ok : goal.returns-in-Ok
returns-in-Ok g c =
    throws_made g.met.S.Store.later_still (λ a b text h. g.met.S.Store.keeps_left_out a b text h) (g.met.S.Store.at_once c.error_with.new.store) (error_prototype c.args.kind) c.args.message.now c.in-Ok.error c.in-Ok.ensures

pub returns-in-Err : goal.returns-in-Err
returns-in-Err g c = throws_none (error_prototype c.args.kind) c.args.message.now c.in-Err.fault c.in-Err.ensures
