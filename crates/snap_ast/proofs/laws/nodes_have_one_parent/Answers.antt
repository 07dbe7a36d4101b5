use Rattle.snap_ast.proofs.Parents.{no_parent, one_parent, top_or_child}
use Rattle.snap_ast.proofs.laws.nodes_have_one_parent.Goals as goal

pub returns-clause-some : goal.returns-clause-some
returns-clause-some c = top_or_child

pub returns-clause-none : goal.returns-clause-none
returns-clause-none c = no_parent

pub returns-clause-one : goal.returns-clause-one
returns-clause-one c = one_parent
