use Rattle.snap_scope.proofs.Errors.{script_first}
use Rattle.snap_scope.proofs.resolving.resolve.Goals as goal

pub returns-in-Err-clause-first : goal.returns-in-Err-clause-first
returns-in-Err-clause-first c = script_first c.args.tree.now c.in-Err.fault c.in-Err.ensures.err

pub returns-in-Err-clause-refused : goal.returns-in-Err-clause-refused
returns-in-Err-clause-refused c = λ apart.
    c.one_early_error.ensures.stands c.args.tree.now c.in-Err.fault c.requires (script_first c.args.tree.now c.in-Err.fault c.in-Err.ensures.err apart)
