use Rattle.std.proofs.Common.{length, map}
use Rattle.snap_ast.proofs.Extents.{each_has_node}
use Rattle.snap_ast.proofs.Parents.{node_is_lawful}
use Rattle.snap_ast.specs.Children.{statement}
use Rattle.snap_ast.specs.Lawful.{most_levels}
use Rattle.snap_ast.proofs.laws.nodes_are_lawful.Goals as goal

pub returns-clause-top : goal.returns-clause-top
returns-clause-top c = λ tree lawful. each_has_node tree.nodes most_levels (map statement tree.top) 0 (length tree.nodes) lawful

pub returns-clause-node : goal.returns-clause-node
returns-clause-node c = node_is_lawful
