-- The children of a node, in the order of the source, and what each of them may be.
use Rattle.std.specs.Prelude.{ℕ, Bool, true, false, List, [], ◌∷◌, ◌++◌, map, Option, Some, None}
use Rattle.snap_ast.specs.declared.form.Form.{Form}
use Rattle.snap_ast.specs.declared.form.Form.TheVariants as f
use Rattle.snap_ast.specs.declared.operator.UnaryOperator.{UnaryOperator}
use Rattle.snap_ast.specs.declared.operator.UnaryOperator.TheVariants.{Delete}
use Rattle.snap_ast.specs.declared.part.Binding.{Binding}
use Rattle.snap_ast.specs.declared.part.ConstBinding.{ConstBinding}
use Rattle.snap_ast.specs.declared.part.ConstBinding.TheVariants.{One, Pattern}
use Rattle.snap_ast.specs.declared.part.PropertyKey.{PropertyKey}
use Rattle.snap_ast.specs.declared.part.PropertyKey.TheVariants.{Computed}
use Rattle.snap_ast.specs.declared.part.Property.{Property}

-- what a child may be
pub data Class : Type 0 where
  AnyStatement : Class
  -- no let, const or function
  Body : Class
  Block : Class
  -- also one in parentheses
  AnyExpression : Class
  -- what stands left of an assignment operator: an Or without parentheses round it, and no name
  AssignTarget : Class
  -- what stands behind ++ or --: a Unary without parentheses round it, and no name
  PrefixTarget : Class
  -- what stands before ++ or --: a Call without parentheses round it, and no name
  PostfixTarget : Class
  -- what delete takes: a Call that ends in . or [ ]
  Reference : Class

-- a child: its class and its number
pub record Child : Type 0 where
  pub class : Class
  pub number : ℕ

abbrev pub expression : ℕ → Child
expression number = record { class = AnyExpression; number = number }

abbrev pub statement : ℕ → Child
statement number = record { class = AnyStatement; number = number }

abbrev pub body_of : ℕ → Child
body_of number = record { class = Body; number = number }

abbrev pub block : ℕ → Child
block number = record { class = Block; number = number }

abbrev pub one : Class → ℕ → Child
one class number = record { class = class; number = number }

abbrev pub optional : (ℕ → Child) → Option ℕ → List Child
optional child None = []
optional child (Some number) = child number ∷ []

abbrev pub binding_children : List Binding → List Child
binding_children [] = []
binding_children (binding ∷ bindings) = optional expression binding.value ++ binding_children bindings

abbrev pub const_child : ConstBinding → Child
const_child (One named value) = expression value
const_child (Pattern names value) = expression value

abbrev pub const_children : List ConstBinding → List Child
const_children [] = []
const_children (binding ∷ bindings) = const_child binding ∷ const_children bindings

abbrev pub key_children : PropertyKey → List Child
key_children (Computed number) = expression number ∷ []
key_children key = []

abbrev pub property_children : List Property → List Child
property_children [] = []
property_children (property ∷ properties) = key_children property.key ++ expression property.value ∷ property_children properties

abbrev pub operand_class : UnaryOperator → Class
operand_class Delete = Reference
operand_class operator = AnyExpression

abbrev pub update_class : Bool → Class
update_class true = PrefixTarget
update_class false = PostfixTarget

abbrev pub children : Form → List Child
children (f.Let bindings) = binding_children bindings
children (f.Const bindings) = const_children bindings
children (f.Function name parameters body) = map statement body
children (f.Block body) = map statement body
children f.Empty = []
children (f.Expression value) = expression value ∷ []
children (f.If test then) = expression test ∷ body_of then ∷ []
children (f.IfElse test then otherwise) = expression test ∷ body_of then ∷ body_of otherwise ∷ []
children (f.While test body) = expression test ∷ body_of body ∷ []
children (f.For start test update body) = optional expression start ++ optional expression test ++ optional expression update ++ body_of body ∷ []
children (f.ForLet bindings test update body) = binding_children bindings ++ optional expression test ++ optional expression update ++ body_of body ∷ []
children (f.ForOf is_constant name values body) = expression values ∷ body_of body ∷ []
children f.Break = []
children f.Continue = []
children (f.Return value) = optional expression value
children (f.Throw value) = expression value ∷ []
children (f.TryCatch tried handler finalizer) = block tried ∷ block handler ∷ optional block finalizer
children (f.TryCatchName tried name handler finalizer) = block tried ∷ block handler ∷ optional block finalizer
children (f.TryFinally tried finalizer) = block tried ∷ block finalizer ∷ []
children (f.ArrowValue parameters value) = expression value ∷ []
children (f.ArrowBody parameters body) = map statement body
children (f.AssignName name operator value) = expression value ∷ []
children (f.Assign target operator value) = one AssignTarget target ∷ expression value ∷ []
children (f.Conditional test then otherwise) = expression test ∷ expression then ∷ expression otherwise ∷ []
children (f.Binary operator left right) = expression left ∷ expression right ∷ []
children (f.Unary operator operand) = one (operand_class operator) operand ∷ []
children (f.UpdateName operator is_prefix name) = []
children (f.Update operator is_prefix target) = one (update_class is_prefix) target ∷ []
children (f.Member object key) = expression object ∷ []
children (f.Index object key) = expression object ∷ expression key ∷ []
children (f.Call callee arguments) = expression callee ∷ map expression arguments
children (f.New callee arguments) = expression callee ∷ map expression arguments
children (f.Name name) = []
children (f.Number value) = []
children (f.Text units) = []
children (f.Bool value) = []
children f.Null = []
children f.Undefined = []
children (f.Array elements) = map expression elements
children (f.Object properties) = property_children properties
children (f.FunctionValue parameters body) = map statement body
