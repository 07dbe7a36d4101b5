-- Which operators tokens are.
use Rattle.std.specs.Prelude.{ℕ, Bool, true, false, ◌==◌, Option, Some, None, if◌then◌else◌}
use Rattle.snap_ast.specs.declared.operator.AssignOperator.{AssignOperator}
use Rattle.snap_ast.specs.declared.operator.AssignOperator.TheVariants as assign
use Rattle.snap_ast.specs.declared.operator.BinaryOperator.{BinaryOperator}
use Rattle.snap_ast.specs.declared.operator.BinaryOperator.TheVariants as binary
use Rattle.snap_ast.specs.declared.operator.UnaryOperator.{UnaryOperator}
use Rattle.snap_ast.specs.declared.operator.UnaryOperator.TheVariants as unary
use Rattle.snap_ast.specs.declared.operator.UpdateOperator.{UpdateOperator}
use Rattle.snap_ast.specs.declared.operator.UpdateOperator.TheVariants as update
use Rattle.spec_grammar.specs.declared.sign.Sign.{Sign}
use Rattle.spec_grammar.specs.declared.sign.Sign.TheVariants as s

unfoldable pub binary_of : Sign → Option BinaryOperator
binary_of s.OrOr = Some binary.Or
binary_of s.AndAnd = Some binary.And
binary_of s.Or = Some binary.BitOr
binary_of s.Xor = Some binary.BitXor
binary_of s.And = Some binary.BitAnd
binary_of s.Same = Some binary.Same
binary_of s.NotSame = Some binary.NotSame
binary_of s.Less = Some binary.Less
binary_of s.Greater = Some binary.Greater
binary_of s.LessEqual = Some binary.LessEqual
binary_of s.GreaterEqual = Some binary.GreaterEqual
binary_of s.Shl = Some binary.Shl
binary_of s.Shr = Some binary.Shr
binary_of s.UShr = Some binary.UShr
binary_of s.Plus = Some binary.Add
binary_of s.Minus = Some binary.Sub
binary_of s.Star = Some binary.Mul
binary_of s.Slash = Some binary.Div
binary_of s.Percent = Some binary.Rem
binary_of sign = None

-- The productions from Product, 0, to Or, 9, by their operators.
unfoldable pub level_of : BinaryOperator → ℕ
level_of binary.Or = 9
level_of binary.And = 8
level_of binary.BitOr = 7
level_of binary.BitXor = 6
level_of binary.BitAnd = 5
level_of binary.Same = 4
level_of binary.NotSame = 4
level_of binary.Less = 3
level_of binary.Greater = 3
level_of binary.LessEqual = 3
level_of binary.GreaterEqual = 3
level_of binary.Shl = 2
level_of binary.Shr = 2
level_of binary.UShr = 2
level_of binary.Add = 1
level_of binary.Sub = 1
level_of binary.Mul = 0
level_of binary.Div = 0
level_of binary.Rem = 0

abbrev pub if_at : ℕ → Option BinaryOperator → Option BinaryOperator
if_at level None = None
if_at level (Some operator) = if level_of operator == level then Some operator else None

-- the operator that goes on with an operand at a level
unfoldable pub operator_at : ℕ → Sign → Option BinaryOperator
operator_at level sign = if_at level (binary_of sign)

-- what a Unary begins with
pub data Lead : Type 0 where
  BeforeUnary : UnaryOperator → Lead
  BeforeTarget : UpdateOperator → Lead
  -- no operator
  NoLead : Lead

unfoldable pub lead_of : Sign → Lead
lead_of s.Delete = BeforeUnary unary.Delete
lead_of s.TypeOf = BeforeUnary unary.TypeOf
lead_of s.Plus = BeforeUnary unary.Plus
lead_of s.Minus = BeforeUnary unary.Minus
lead_of s.Tilde = BeforeUnary unary.BitNot
lead_of s.Not = BeforeUnary unary.Not
lead_of s.Increment = BeforeTarget update.Increment
lead_of s.Decrement = BeforeTarget update.Decrement
lead_of sign = NoLead

-- what stands behind an Or in an Expr
pub data Sequel : Type 0 where
  Choice : Sequel
  Assignment : AssignOperator → Sequel
  -- nothing that belongs to it
  NoSequel : Sequel

unfoldable pub sequel_of : Sign → Sequel
sequel_of s.Question = Choice
sequel_of s.Assign = Assignment assign.Plain
sequel_of s.AddAssign = Assignment assign.Add
sequel_of s.SubAssign = Assignment assign.Sub
sequel_of s.MulAssign = Assignment assign.Mul
sequel_of s.DivAssign = Assignment assign.Div
sequel_of s.RemAssign = Assignment assign.Rem
sequel_of s.ShlAssign = Assignment assign.Shl
sequel_of s.ShrAssign = Assignment assign.Shr
sequel_of s.UShrAssign = Assignment assign.UShr
sequel_of s.AndAssign = Assignment assign.BitAnd
sequel_of s.XorAssign = Assignment assign.BitXor
sequel_of s.OrAssign = Assignment assign.BitOr
sequel_of sign = NoSequel

-- what stands behind a Primary, a Member or a Call
pub data Tail : Type 0 where
  Dot : Tail
  Bracket : Tail
  Arguments : Tail
  -- nothing that belongs to it
  NoTail : Tail

abbrev pub arguments_if : Bool → Tail
arguments_if true = Arguments
arguments_if false = NoTail

-- the flag says whether arguments may stand there
unfoldable pub tail_of : Bool → Sign → Tail
tail_of calls s.Dot = Dot
tail_of calls s.OpenSquare = Bracket
tail_of calls s.OpenParen = arguments_if calls
tail_of calls sign = NoTail

unfoldable pub update_of : Sign → Option UpdateOperator
update_of s.Increment = Some update.Increment
update_of s.Decrement = Some update.Decrement
update_of sign = None

-- a let, const or function, which is no Body
unfoldable pub begins_declaration : Sign → Bool
begins_declaration s.Let = true
begins_declaration s.Const = true
begins_declaration s.Function = true
begins_declaration sign = false

-- a statement that is no expression statement begins with the token
unfoldable pub begins_statement : Sign → Bool
begins_statement s.Let = true
begins_statement s.Const = true
begins_statement s.Function = true
begins_statement s.OpenCurly = true
begins_statement s.Semicolon = true
begins_statement s.If = true
begins_statement s.While = true
begins_statement s.For = true
begins_statement s.Break = true
begins_statement s.Continue = true
begins_statement s.Return = true
begins_statement s.Throw = true
begins_statement s.Try = true
begins_statement sign = false
