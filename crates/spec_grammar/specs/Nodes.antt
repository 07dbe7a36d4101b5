-- The nodes that productions make.
use Rattle.std.specs.Prelude.{ℕ, Bool, true, false, List, [], ◌∷◌, Option, Some, None, if◌then◌else◌}
use Rattle.spec_tokens.specs.Number.{number_value}
use Rattle.spec_tokens.specs.Text.{text_units}
use Rattle.snap_ast.specs.declared.form.Form.{Form}
use Rattle.snap_ast.specs.declared.form.Form.TheVariants as f
use Rattle.snap_ast.specs.declared.operator.AssignOperator.{AssignOperator}
use Rattle.snap_ast.specs.declared.operator.BinaryOperator.{BinaryOperator}
use Rattle.snap_ast.specs.declared.operator.UnaryOperator.{UnaryOperator}
use Rattle.snap_ast.specs.declared.operator.UnaryOperator.TheVariants as unary
use Rattle.snap_ast.specs.declared.operator.UpdateOperator.{UpdateOperator}
use Rattle.snap_ast.specs.declared.part.Binding.{Binding}
use Rattle.snap_ast.specs.declared.part.ConstBinding.{ConstBinding}
use Rattle.snap_ast.specs.declared.part.ConstBinding.TheVariants.{One, Pattern}
use Rattle.snap_ast.specs.declared.part.Named.{Named}
use Rattle.snap_ast.specs.declared.part.Property.{Property}
use Rattle.snap_ast.specs.declared.part.PropertyKey.{PropertyKey}
use Rattle.snap_ast.specs.declared.part.PropertyKey.TheVariants.{Computed, Word}
use Rattle.snap_ast.specs.declared.tree.TreeNode.{TreeNode}
use Rattle.spec_grammar.specs.Phrase.{Phrase, nothing, ◌▸◌, under, number, above, Row, with_part, with_phrase, Optional}

-- ---- expressions

-- a node without children
abbrev pub leaf : ℕ → Form → Phrase
leaf at form = above at form nothing

abbrev pub binary_node : BinaryOperator → Phrase → Phrase → Phrase
binary_node operator left right = above left.at (f.Binary operator 0 (number (under left))) (under left ▸ right)

abbrev pub unary_node : ℕ → UnaryOperator → Phrase → Phrase
unary_node at operator operand = above at (f.Unary operator 0) (under operand)

abbrev pub update_name : ℕ → UpdateOperator → Bool → Named → Phrase
update_name at operator is_prefix named = leaf at (f.UpdateName operator is_prefix named)

abbrev pub update_node : ℕ → UpdateOperator → Bool → Phrase → Phrase
update_node at operator is_prefix target = above at (f.Update operator is_prefix 0) (under target)

abbrev pub name_of_form : ℕ → Form → Option Named
name_of_form at (f.Name name) = Some (record { name = name; at = at })
name_of_form at form = None

abbrev pub name_of_nodes : List TreeNode → Option Named
name_of_nodes [] = None
name_of_nodes (node ∷ nodes) = name_of_form node.at node.form

-- the name that a phrase is
unfoldable pub name_of : Phrase → Option Named
name_of phrase = name_of_nodes phrase.nodes

abbrev pub is_access_form : Form → Bool
is_access_form (f.Member object key) = true
is_access_form (f.Index object key) = true
is_access_form form = false

abbrev pub is_access_nodes : List TreeNode → Bool
is_access_nodes [] = false
is_access_nodes (node ∷ nodes) = is_access_form node.form

-- a Call that ends in . or [ ], without parentheses round it
unfoldable pub is_reference : Phrase → Bool
is_reference phrase = if phrase.is_wrapped then false else is_access_nodes phrase.nodes

-- the operator takes the operand
unfoldable pub takes : UnaryOperator → Phrase → Bool
takes unary.Delete operand = is_reference operand
takes operator operand = true

abbrev pub postfix_by : UpdateOperator → Phrase → Option Named → Phrase
postfix_by operator target (Some named) = update_name target.at operator false named
postfix_by operator target None = update_node target.at operator false target

-- an operator behind its target, which is a name or a node
unfoldable pub postfix_node : UpdateOperator → Phrase → Phrase
postfix_node operator target = postfix_by operator target (name_of target)

abbrev pub assign_by : AssignOperator → Phrase → Phrase → Option Named → Phrase
assign_by operator target value (Some named) = above target.at (f.AssignName named operator 0) (under value)
assign_by operator target value None = above target.at (f.Assign 0 operator (number (under target))) (under target ▸ value)

-- an assignment to a name or a node
unfoldable pub assign_node : AssignOperator → Phrase → Phrase → Phrase
assign_node operator target value = assign_by operator target value (name_of target)

abbrev pub conditional_node : Phrase → Phrase → Phrase → Phrase
conditional_node test chosen otherwise =
    let both = under test ▸ chosen in
    above test.at (f.Conditional 0 (number (under test)) (number both)) (both ▸ otherwise)

abbrev pub arrow_value : ℕ → List Named → Phrase → Phrase
arrow_value at parameters value = above at (f.ArrowValue parameters 0) (under value)

abbrev pub arrow_body : ℕ → List Named → Row ℕ → Phrase
arrow_body at parameters body = above at (f.ArrowBody parameters body.items) body.below

abbrev pub member_node : Phrase → List ℕ → Phrase
member_node object key = above object.at (f.Member 0 key) (under object)

abbrev pub index_node : Phrase → Phrase → Phrase
index_node object key = above object.at (f.Index 0 (number (under object))) (under object ▸ key)

-- the arguments stand behind the phrase that is called
abbrev pub call_node : ℕ → Row ℕ → Phrase
call_node at arguments = above at (f.Call 0 arguments.items) arguments.below

abbrev pub new_node : ℕ → Row ℕ → Phrase
new_node at arguments = above at (f.New 0 arguments.items) arguments.below

abbrev pub array_node : ℕ → Row ℕ → Phrase
array_node at elements = above at (f.Array elements.items) elements.below

abbrev pub object_node : ℕ → Row Property → Phrase
object_node at properties = above at (f.Object properties.items) properties.below

abbrev pub function_value : ℕ → List Named → Row ℕ → Phrase
function_value at parameters body = above at (f.FunctionValue parameters body.items) body.below

abbrev pub name_node : Named → Phrase
name_node named = leaf named.at (f.Name named.name)

abbrev pub number_node : ℕ → List ℕ → Phrase
number_node at text = leaf at (f.Number (number_value text))

abbrev pub text_node : ℕ → List ℕ → Phrase
text_node at text = leaf at (f.Text (text_units text))

-- ---- properties

abbrev pub with_property : Row Property → PropertyKey → Phrase → Row Property
with_property row key value = with_phrase row (record { key = key; value = number row.below }) value

abbrev pub with_shorthand : Row Property → Named → Row Property
with_shorthand row named = with_property row (Word named.name) (name_node named)

-- the key stands before the value
abbrev pub with_computed : Row Property → Phrase → Phrase → Row Property
with_computed row key value =
    let both = row.below ▸ key in
    with_phrase (record { items = row.items; below = both }) (record { key = Computed (number row.below); value = number both }) value

-- ---- bindings

abbrev pub with_name : Row Binding → Named → Row Binding
with_name row named = with_part row (record { name = named; value = None })

abbrev pub with_value : Row Binding → Named → Phrase → Row Binding
with_value row named value = with_phrase row (record { name = named; value = Some (number row.below) }) value

abbrev pub with_constant : Row ConstBinding → Named → Phrase → Row ConstBinding
with_constant row named value = with_phrase row (One named (number row.below)) value

abbrev pub with_pattern : Row ConstBinding → List Named → Phrase → Row ConstBinding
with_pattern row names value = with_phrase row (Pattern names (number row.below)) value

-- ---- statements

abbrev pub let_node : ℕ → Row Binding → Phrase
let_node at bindings = above at (f.Let bindings.items) bindings.below

abbrev pub const_node : ℕ → Row ConstBinding → Phrase
const_node at bindings = above at (f.Const bindings.items) bindings.below

abbrev pub function_node : ℕ → Named → List Named → Row ℕ → Phrase
function_node at named parameters body = above at (f.Function named parameters body.items) body.below

abbrev pub block_node : ℕ → Row ℕ → Phrase
block_node at body = above at (f.Block body.items) body.below

abbrev pub expression_node : Phrase → Phrase
expression_node value = above value.at (f.Expression 0) (under value)

abbrev pub if_node : ℕ → Phrase → Phrase → Phrase
if_node at test chosen = above at (f.If 0 (number (under test))) (under test ▸ chosen)

abbrev pub if_else_node : ℕ → Phrase → Phrase → Phrase → Phrase
if_else_node at test chosen otherwise =
    let both = under test ▸ chosen in
    above at (f.IfElse 0 (number (under test)) (number both)) (both ▸ otherwise)

abbrev pub while_node : ℕ → Phrase → Phrase → Phrase
while_node at test body = above at (f.While 0 (number (under test))) (under test ▸ body)

-- each of the three stands behind those before it
abbrev pub for_node : ℕ → Optional → Optional → Optional → Phrase → Phrase
for_node at start test update body = above at (f.For start.number test.number update.number (number update.below)) (update.below ▸ body)

abbrev pub for_let_node : ℕ → Row Binding → Optional → Optional → Phrase → Phrase
for_let_node at bindings test update body = above at (f.ForLet bindings.items test.number update.number (number update.below)) (update.below ▸ body)

abbrev pub for_of_node : ℕ → Bool → Named → Phrase → Phrase → Phrase
for_of_node at is_constant named values body = above at (f.ForOf is_constant named 0 (number (under values))) (under values ▸ body)

abbrev pub return_node : ℕ → Optional → Phrase
return_node at value = above at (f.Return value.number) value.below

abbrev pub throw_node : ℕ → Phrase → Phrase
throw_node at value = above at (f.Throw 0) (under value)

abbrev pub try_catch_node : ℕ → Phrase → Phrase → Optional → Phrase
try_catch_node at tried handler finalizer = above at (f.TryCatch 0 (number (under tried)) finalizer.number) finalizer.below

abbrev pub try_catch_name_node : ℕ → Phrase → Named → Phrase → Optional → Phrase
try_catch_name_node at tried named handler finalizer = above at (f.TryCatchName 0 named (number (under tried)) finalizer.number) finalizer.below

abbrev pub try_finally_node : ℕ → Phrase → Phrase → Phrase
try_finally_node at tried finalizer = above at (f.TryFinally 0 (number (under tried))) (under tried ▸ finalizer)
