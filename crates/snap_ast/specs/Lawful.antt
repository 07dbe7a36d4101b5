-- What makes a tree lawful, said of the tree alone.
use Rattle.std.specs.Prelude.{◌≡◌, ℕ, zero, suc, Bool, true, false, List, [], ◌∷◌, map, length, slice_get, Some}
use Rattle.snap_ast.specs.declared.form.Form.{Form}
use Rattle.snap_ast.specs.declared.form.Form.TheVariants as f
use Rattle.snap_ast.specs.declared.tree.Tree.{Tree}
use Rattle.snap_ast.specs.declared.tree.TreeNode.{TreeNode}
use Rattle.snap_ast.specs.Children.{Class, AnyStatement, Body, Block, AnyExpression, AssignTarget, PrefixTarget, PostfixTarget, Reference, Child, children, statement}
use Rattle.snap_ast.specs.Words.{Each, IsSome, IsName, IsNamed, IsText, IsNumber, IsKey, IsConstBinding}
use Rattle.spec_tokens.specs.Shape.{IsWord}

-- How tightly a form holds together: what a child without parentheses may be goes by this.
pub data Rank : Type 0 where
  -- a let, const or function
  Declaration : Rank
  -- a block
  Braces : Rank
  -- another statement
  Plain : Rank
  -- an arrow, an assignment or a conditional
  Loose : Rank
  -- two operands and the operator between them
  Chain : Rank
  -- an operator before or behind its operand
  Prefixed : Rank
  -- a member or an index
  Access : Rank
  -- a name
  Single : Rank
  -- another Call
  Tight : Rank

abbrev pub rank : Form → Rank
rank (f.Let bindings) = Declaration
rank (f.Const bindings) = Declaration
rank (f.Function name parameters body) = Declaration
rank (f.Block body) = Braces
rank f.Empty = Plain
rank (f.Expression value) = Plain
rank (f.If test then) = Plain
rank (f.IfElse test then otherwise) = Plain
rank (f.While test body) = Plain
rank (f.For start test update body) = Plain
rank (f.ForLet bindings test update body) = Plain
rank (f.ForOf is_constant name values body) = Plain
rank f.Break = Plain
rank f.Continue = Plain
rank (f.Return value) = Plain
rank (f.Throw value) = Plain
rank (f.TryCatch tried handler finalizer) = Plain
rank (f.TryCatchName tried name handler finalizer) = Plain
rank (f.TryFinally tried finalizer) = Plain
rank (f.ArrowValue parameters value) = Loose
rank (f.ArrowBody parameters body) = Loose
rank (f.AssignName name operator value) = Loose
rank (f.Assign target operator value) = Loose
rank (f.Conditional test then otherwise) = Loose
rank (f.Binary operator left right) = Chain
rank (f.Unary operator operand) = Prefixed
rank (f.UpdateName operator is_prefix name) = Prefixed
rank (f.Update operator is_prefix target) = Prefixed
rank (f.Member object key) = Access
rank (f.Index object key) = Access
rank (f.Call callee arguments) = Tight
rank (f.New callee arguments) = Tight
rank (f.Name name) = Single
rank (f.Number value) = Tight
rank (f.Text units) = Tight
rank (f.Bool value) = Tight
rank f.Null = Tight
rank f.Undefined = Tight
rank (f.Array elements) = Tight
rank (f.Object properties) = Tight
rank (f.FunctionValue parameters body) = Tight

abbrev pub may_be : Class → Rank → Bool
may_be AnyStatement Declaration = true
may_be AnyStatement Braces = true
may_be AnyStatement Plain = true
may_be Body Braces = true
may_be Body Plain = true
may_be Block Braces = true
may_be AnyExpression Loose = true
may_be AnyExpression Chain = true
may_be AnyExpression Prefixed = true
may_be AnyExpression Access = true
may_be AnyExpression Single = true
may_be AnyExpression Tight = true
may_be AssignTarget Chain = true
may_be AssignTarget Prefixed = true
may_be AssignTarget Access = true
may_be AssignTarget Tight = true
may_be PrefixTarget Prefixed = true
may_be PrefixTarget Access = true
may_be PrefixTarget Tight = true
may_be PostfixTarget Access = true
may_be PostfixTarget Tight = true
may_be Reference Access = true
may_be class rank = false

-- the names, keys and literals of a form are such as a source has, and its lists have the items that they need
abbrev pub HasWords : Form → Type 0
HasWords (f.Let bindings) = Each (λ binding. IsNamed binding.name) bindings × IsSome bindings
HasWords (f.Const bindings) = Each IsConstBinding bindings × IsSome bindings
HasWords (f.Function name parameters body) = IsNamed name × Each IsNamed parameters
HasWords (f.ForLet bindings test update body) = Each (λ binding. IsNamed binding.name) bindings × IsSome bindings
HasWords (f.ForOf is_constant name values body) = IsNamed name
HasWords (f.TryCatchName tried name handler finalizer) = IsNamed name
HasWords (f.ArrowValue parameters value) = Each IsNamed parameters
HasWords (f.ArrowBody parameters body) = Each IsNamed parameters
HasWords (f.AssignName name operator value) = IsNamed name
HasWords (f.UpdateName operator is_prefix name) = IsNamed name
HasWords (f.Member object key) = IsWord key []
HasWords (f.Name name) = IsName name
HasWords (f.Number value) = IsNumber value
HasWords (f.Text units) = IsText units
HasWords (f.Object properties) = Each (λ property. IsKey property.key) properties
HasWords (f.FunctionValue parameters body) = Each IsNamed parameters
HasWords form = Unit {0}

-- the children stand one after another from a place of the table to another
abbrev pub Follow : (Child → ℕ → Type 0) → List Child → ℕ → ℕ → Type 0
Follow Spans [] from to = from ≡ to
Follow Spans (child ∷ rest) from to = (child.number ≡ from) × (end : ℕ) × Spans child end × Follow Spans rest end to

-- a child and the nodes below it, which have so many levels, stand from its number to another
abbrev pub Spans : List TreeNode → ℕ → Child → ℕ → Type 0
Spans nodes zero child end = ⊥
Spans nodes (suc levels) child end =
    (node : TreeNode) × (slice_get nodes child.number ≡ Some node) × (may_be child.class (rank node.form) ≡ true) × HasWords node.form
    × Follow (Spans nodes levels) (children node.form) (suc child.number) end

-- how many levels a tree may have: a node may have 100 nodes round it
abbrev pub most_levels : ℕ
most_levels = 101

-- The nodes are numbered in preorder, within the levels, and each is of a production with its children.
abbrev pub Lawful : Tree → Type 0
Lawful tree = Follow (Spans tree.nodes most_levels) (map statement tree.top) 0 (length tree.nodes)
