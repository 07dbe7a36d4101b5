use Rattle.snap_object.proofs.Defined.{found_none, found_so}
use Rattle.snap_object.proofs.globals.found_global.Goals as goal

pub returns-in-Ok-clause-gives : goal.returns-in-Ok-clause-gives
returns-in-Ok-clause-gives g c = found_so (g.met.S.Store.keeps_keys c.args.store.now c.find_value.new.store c.in-Ok.ensures.gives.later c.args.name.now c.args.key c.requires.key) c.in-Ok.ensures.gives

pub returns-clause-gives : goal.returns-clause-gives
returns-clause-gives g c = found_none c.in-Err.ensures.gives
