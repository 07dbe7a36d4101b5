-- What a refusal says.
use Rattle.std.specs.Prelude.{◌≡◌, List, Option, Some}
use Rattle.snap_ast.specs.declared.tree.Tree.{Tree}
use Rattle.snap_ast.specs.declared.tree.TreeNode.{TreeNode}
use Rattle.snap_scope.specs.declared.context.Context.{Context}
use Rattle.spec_scopes.specs.declared.fault.ScopeFault.{ScopeFault}
use Rattle.spec_scopes.specs.declared.fault.ScopeFault.TheVariants.{Duplicate, BadTarget, StrayJump, NoMemory}
use Rattle.spec_scopes.specs.Round.{Step, in_function, in_loop}
use Rattle.spec_scopes.specs.Told.{node_error}

-- this early error is the one, or memory ran out
abbrev pub IsTold : Option ScopeFault → ScopeFault → Type 0
IsTold one (Duplicate at) = one ≡ Some (Duplicate at)
IsTold one (BadTarget at) = one ≡ Some (BadTarget at)
IsTold one (StrayJump at) = one ≡ Some (StrayJump at)
IsTold one NoMemory = Unit {0}

-- it is that of a node with this context
abbrev pub IsToldAt : Tree → TreeNode → Context → ScopeFault → Type 0
IsToldAt tree node context fault = (steps : List Step) → context.in_loop ≡ in_loop steps → context.in_function ≡ in_function steps → IsTold (node_error tree node steps) fault
