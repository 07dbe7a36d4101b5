-- The choices of the code as those of the definitions.
use Rattle.spec_grammar.specs.Operators as spec
use Rattle.snap_cursor.specs.declared.operator.Lead.{Lead}
use Rattle.snap_cursor.specs.declared.operator.Lead.TheVariants as lead
use Rattle.snap_cursor.specs.declared.operator.Sequel.{Sequel}
use Rattle.snap_cursor.specs.declared.operator.Sequel.TheVariants as sequel
use Rattle.snap_cursor.specs.declared.operator.Tail.{Tail}
use Rattle.snap_cursor.specs.declared.operator.Tail.TheVariants as tail

abbrev pub lead_in : Lead → spec.Lead
lead_in (lead.BeforeUnary operator) = spec.BeforeUnary operator
lead_in (lead.BeforeTarget operator) = spec.BeforeTarget operator
lead_in lead.NoLead = spec.NoLead

abbrev pub sequel_in : Sequel → spec.Sequel
sequel_in sequel.Choice = spec.Choice
sequel_in (sequel.Assignment operator) = spec.Assignment operator
sequel_in sequel.NoSequel = spec.NoSequel

abbrev pub tail_in : Tail → spec.Tail
tail_in tail.Dot = spec.Dot
tail_in tail.Bracket = spec.Bracket
tail_in tail.Arguments = spec.Arguments
tail_in tail.NoTail = spec.NoTail
