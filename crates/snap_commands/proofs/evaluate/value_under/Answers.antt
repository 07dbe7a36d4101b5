use Rattle.std.proofs.Common.{Option, ap, sym, ◌∙◌}
use Rattle.snap_commands.specs.declared.statement.Literal.{Literal}
use Rattle.std.specs.Option.{option_map_or}
use Rattle.snap_graph.specs.declared.value.Value.TheVariants.{Undefined}
use Rattle.snap_commands.specs.Thin.{value_of}
use Rattle.snap_commands.proofs.Entries.{value_found}
use Rattle.snap_commands.proofs.evaluate.value_under.Goals as goal

pub returns-in-Some : goal.returns-in-Some
returns-in-Some c = ap (λ (o : Option Literal). option_map_or value_of o Undefined) c.in-Some.ensures.value ∙ sym (value_found c.args.globals.now.entries c.args.name.now)

pub returns-in-None : goal.returns-in-None
returns-in-None c = ap (λ (o : Option Literal). option_map_or value_of o Undefined) c.in-None.ensures.value ∙ sym (value_found c.args.globals.now.entries c.args.name.now)
