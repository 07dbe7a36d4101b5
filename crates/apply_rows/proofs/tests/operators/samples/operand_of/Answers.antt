use Rattle.std.proofs.Common.{ℕ, arith}
use Rattle.std.specs.Prelude.{Result, Ok, Err, IfOk}
use Rattle.snap_graph.specs.declared.value.Value.{Value}
use Rattle.snap_graph.specs.Values.{IsValue}
use Rattle.snap_oper.specs.Given.{IsOperand}
use Rattle.heap_words.specs.declared.refused.Refused.{Refused}
use Rattle.apply_rows.proofs.tests.operators.samples.operand_of.Goals as goal

operand_of : (given : Result Value Refused) (count : ℕ) → ((count : ℕ) (value : Value) → IsValue count value → IsOperand value) → IfOk given (IsValue count) → IfOk given IsOperand
operand_of (Err why) count law is = tt
operand_of (Ok value) count law is = law count value is

pub returns : goal.returns
returns c = operand_of c.value_of.result 4294967296 c.values_are_operands.ensures (c.value_of.ensures 4294967296 (omega arith))
