use Rattle.std.proofs.Common.{◌≡◌, ◌++◌, arith, [], ◌∷◌, Some, sym, ◌∙◌, ap}
use Rattle.std.specs.Prelude.{slice_get}
use Rattle.std.specs.Option.{option_map}
use Rattle.snap_graph.specs.declared.value.Property.{Property}
use Rattle.snap_commands.proofs.Entries.{Entry, entry_stands, pointed, properties_more}
use Rattle.snap_commands.proofs.properties.put_globals.Goals as goal
use Rattle.snap_commands.proofs.properties.put_globals.Goals.{in-Some+in_ok-property+in_ok-put, in_default}

-- src/properties.rt:44:5
pub loop-index-preserved : goal.loop-index-preserved
loop-index-preserved c = elim c.match-get_index.branch [
  | in-Some+in_ok-property+in_ok-put w ↦
      let e : Entry = (w.in-Some.name.now, w.in-Some.value.now) in
      let es = c.args.globals.now.entries in
      let found : slice_get es c.loop-index.index ≡ Some e = sym c.get_index.ensures.entry ∙ ap (option_map pointed) w.in-Some.is in
      properties_more es c.loop-index.index e c.args.list.now.items c.loop-index.list.items c.match-get_index.list.items found c.loop-index.invariant
      (ap (λ v. v.items) w.list-is ∙ w.in_ok-put.ensures ∙ ap (λ (p : Property). c.loop-index.list.items ++ p ∷ []) w.in_ok-property.ensures)
  | in_default w ↦
      absurd (entry_stands c.args.globals.now.entries c.loop-index.index (omega (arith, c.loop-index-test.true, c.len-index-end.ensures.len)) (sym c.get_index.ensures.entry ∙ ap (option_map pointed) w.in_default.is))
]
