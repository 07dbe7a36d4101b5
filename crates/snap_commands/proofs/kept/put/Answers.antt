use Rattle.std.proofs.Common.{ℕ, List, ap, ◌∙◌}
use Rattle.snap_graph.specs.declared.value.Value.{Value}
use Rattle.snap_commands.specs.Globals.{entries_of}
use Rattle.snap_commands.specs.Thin.{assigned, value_of}
use Rattle.snap_commands.proofs.Entries.{entries_assigned}
use Rattle.snap_commands.proofs.kept.put.Goals as goal

pub returns-in-Ok : goal.returns-in-Ok
returns-in-Ok c =
    let before = entries_of c.args.globals.now.entries in
    ap entries_of c.in-Ok.ensures.entries
    ∙ entries_assigned c.args.globals.now.entries c.as_slice.result c.literal.result
    ∙ ap (λ (name : List ℕ). assigned before name (value_of c.literal.result)) c.as_slice.ensures.value
    ∙ ap (λ (v : Value). assigned before c.args.kept.now.name.items v) c.literal.ensures
