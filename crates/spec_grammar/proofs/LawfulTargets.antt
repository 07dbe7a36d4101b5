-- What stands left of an assignment, or before or behind ++ and --, is of its class: it is tight enough, and no name.
use Rattle.std.proofs.Common.{◌≡◌, ℕ, Bool, true, false, List, [], ◌∷◌, refl, subst, if◌then◌else◌}
use Rattle.std.specs.Prelude.{Option, Some, None}
use Rattle.snap_ast.specs.Children.{Class, AnyExpression, AssignTarget, PrefixTarget, PostfixTarget, Reference, children, operand_class}
use Rattle.snap_ast.specs.Lawful.{HasWords, Rank, Prefixed, Access, Single, Tight, may_be, rank}
use Rattle.snap_ast.specs.Words.{IsNamed}
use Rattle.snap_ast.specs.declared.form.Form.{Form}
use Rattle.snap_ast.specs.declared.form.Form.TheVariants as f
use Rattle.snap_ast.specs.declared.operator.AssignOperator.{AssignOperator}
use Rattle.snap_ast.specs.declared.operator.UnaryOperator.{UnaryOperator}
use Rattle.snap_ast.specs.declared.operator.UnaryOperator.TheVariants as unary
use Rattle.snap_ast.specs.declared.operator.UpdateOperator.{UpdateOperator}
use Rattle.snap_ast.specs.declared.part.Named.{Named}
use Rattle.snap_ast.specs.declared.tree.TreeNode.{TreeNode}
use Rattle.spec_grammar.proofs.LawfulPieces.{IsA, IsBelow, below_more, below_none, below_under, node_is, rank_at, words_at}
use Rattle.spec_grammar.specs.Nodes.{assign_by, assign_node, is_access_form, is_access_nodes, is_reference, name_of, name_of_form, name_of_nodes, postfix_by, postfix_node, takes}
use Rattle.spec_grammar.specs.Phrase.{Below, Phrase, above}

-- a rank that a child of the class may have, or that of a name
abbrev pub fits : Class → Rank → Bool
fits class Single = true
fits class rank = may_be class rank

-- an operand, which without parentheses round it is of a class of targets, or a name
pub record IsOperandOf (class : Class) (phrase : Phrase) : Type 0 where
  pub is_a : IsA AnyExpression phrase
  pub firm : phrase.is_wrapped ≡ false → fits class (rank_at phrase.nodes) ≡ true

-- a piece that may stand elsewhere too
pub as_class : {class other : Class} {phrase : Phrase} → IsA class phrase → may_be other (rank_at phrase.nodes) ≡ true → IsA other phrase
as_class is_a is = record { piece = is_a.piece; is = is }

-- ---- from a tighter class to a looser one

prefix_fits : (rank : Rank) → fits PostfixTarget rank ≡ true → fits PrefixTarget rank ≡ true
prefix_fits Access e = refl
prefix_fits Single e = refl
prefix_fits Tight e = refl
prefix_fits rank e = absurd cc

assign_fits : (rank : Rank) → fits PrefixTarget rank ≡ true → fits AssignTarget rank ≡ true
assign_fits Prefixed e = refl
assign_fits Access e = refl
assign_fits Single e = refl
assign_fits Tight e = refl
assign_fits rank e = absurd cc

pub as_prefix : {phrase : Phrase} → IsOperandOf PostfixTarget phrase → IsOperandOf PrefixTarget phrase
as_prefix {phrase} operand = record { is_a = operand.is_a; firm = λ e. prefix_fits (rank_at phrase.nodes) (operand.firm e) }

pub as_assign : {phrase : Phrase} → IsOperandOf PrefixTarget phrase → IsOperandOf AssignTarget phrase
as_assign {phrase} operand = record { is_a = operand.is_a; firm = λ e. assign_fits (rank_at phrase.nodes) (operand.firm e) }

-- a node above its children is an operand where it holds together well enough
pub operand_node : {place : ℕ} {form : Form} {below : Below} {class : Class} → HasWords form → IsBelow (children form) below → may_be AnyExpression (rank form) ≡ true → fits class (rank form) ≡ true → IsOperandOf class (above place form below)
operand_node words is_below is fit = record { is_a = node_is words is_below is; firm = λ e. fit }

-- ---- names

form_nameless : (class : Class) (at : ℕ) (form : Form) → name_of_form at form ≡ None → fits class (rank form) ≡ true → may_be class (rank form) ≡ true
form_nameless class at (f.Name name) none e = absurd cc
form_nameless class at form none e = e

nameless : (class : Class) (nodes : List TreeNode) → name_of_nodes nodes ≡ None → fits class (rank_at nodes) ≡ true → may_be class (rank_at nodes) ≡ true
nameless class [] none e = e
nameless class (node ∷ nodes) none e = form_nameless class node.at node.form none e

some_named : {named other : Named} → Some named ≡ Some other → IsNamed named → IsNamed other
some_named {named} {other} e is = subst IsNamed (same named other e) is where
  same : (named other : Named) → Some named ≡ Some other → named ≡ other
  same named other e = cc

form_named : (at : ℕ) (form : Form) (named : Named) → name_of_form at form ≡ Some named → HasWords form → IsNamed named
form_named at (f.Name name) named e words = some_named e words
form_named at form named e words = absurd cc

nodes_named : (nodes : List TreeNode) (named : Named) → name_of_nodes nodes ≡ Some named → words_at nodes → IsNamed named
nodes_named [] named e words = absurd cc
nodes_named (node ∷ nodes) named e words = form_named node.at node.form named e words

target_is : {class : Class} {phrase : Phrase} → IsOperandOf class phrase → phrase.is_wrapped ≡ false → name_of phrase ≡ None → IsA class phrase
unfolding name_of
target_is {class} {phrase} operand bare none = as_class operand.is_a (nameless class phrase.nodes none (operand.firm bare))

named_is : {phrase : Phrase} {named : Named} → IsA AnyExpression phrase → name_of phrase ≡ Some named → IsNamed named
unfolding name_of
named_is {phrase} {named} is_a e = nodes_named phrase.nodes named e is_a.piece.words

postfix_by_is : (operator : UpdateOperator) (target : Phrase) (named : Option Named) → name_of target ≡ named → IsOperandOf PostfixTarget target → target.is_wrapped ≡ false → IsOperandOf PrefixTarget (postfix_by operator target named)
postfix_by_is operator target (Some named) e operand bare = operand_node (named_is operand.is_a e) below_none refl refl
postfix_by_is operator target None e operand bare = operand_node tt (below_under (target_is operand bare e)) refl refl

pub postfix_is : (operator : UpdateOperator) {target : Phrase} → IsOperandOf PostfixTarget target → target.is_wrapped ≡ false → IsOperandOf PrefixTarget (postfix_node operator target)
unfolding postfix_node
postfix_is operator {target} operand bare = postfix_by_is operator target (name_of target) refl operand bare

assign_by_is : (operator : AssignOperator) (left value : Phrase) (named : Option Named) → name_of left ≡ named → IsOperandOf AssignTarget left → left.is_wrapped ≡ false → IsA AnyExpression value → IsA AnyExpression (assign_by operator left value named)
assign_by_is operator left value (Some named) e operand bare is_a = node_is (named_is operand.is_a e) (below_under is_a) refl
assign_by_is operator left value None e operand bare is_a = node_is tt (below_more (below_under (target_is operand bare e)) is_a) refl

pub assign_is : (operator : AssignOperator) {left value : Phrase} → IsOperandOf AssignTarget left → left.is_wrapped ≡ false → IsA AnyExpression value → IsA AnyExpression (assign_node operator left value)
unfolding assign_node
assign_is operator {left} {value} operand bare is_a = assign_by_is operator left value (name_of left) refl operand bare is_a

-- ---- what delete takes

form_access : (form : Form) → is_access_form form ≡ true → may_be Reference (rank form) ≡ true
form_access (f.Member object key) e = refl
form_access (f.Index object key) e = refl
form_access form e = absurd cc

nodes_access : (nodes : List TreeNode) → is_access_nodes nodes ≡ true → may_be Reference (rank_at nodes) ≡ true
nodes_access [] e = absurd cc
nodes_access (node ∷ nodes) e = form_access node.form e

bare_access : (is_wrapped : Bool) (nodes : List TreeNode) → (if is_wrapped then false else is_access_nodes nodes) ≡ true → may_be Reference (rank_at nodes) ≡ true
bare_access true nodes e = absurd cc
bare_access false nodes e = nodes_access nodes e

pub taken_is : (operator : UnaryOperator) {operand : Phrase} → takes operator operand ≡ true → IsA AnyExpression operand → IsA (operand_class operator) operand
unfolding takes is_reference
taken_is unary.Delete {operand} e is_a = as_class is_a (bare_access operand.is_wrapped operand.nodes e)
taken_is operator e is_a = is_a
