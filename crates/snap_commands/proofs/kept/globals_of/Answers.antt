use Rattle.std.proofs.Common.{rules, ◌≡◌, ◌<◌, List, length, ap, ◌∙◌}
use Rattle.std.specs.Prelude.{slice_index_or}
use Rattle.snap_commands.specs.declared.kept.Kept.{Kept}
use Rattle.snap_commands.specs.Globals.{entries_of}
use Rattle.snap_commands.proofs.NewNames.{kept_more}
use Rattle.snap_commands.proofs.kept.globals_of.Goals as goal

pub loop-kept-preserved : goal.loop-kept-preserved
loop-kept-preserved c =
    let list = c.args.loaded.now.globals.items in
    let i = c.loop-kept.kept-index in
    let k = c.kept-item.result in
    let inside : i < length list = search rules in
    let at : k ≡ slice_index_or list i k = c.kept-item.is ∙ ap (λ (ks : List Kept). slice_index_or ks i k) c.deref-kept-items.ensures.value in
    kept_more list i k (entries_of c.loop-kept.globals.entries) (entries_of c.put.new.globals.entries) c.requires inside at c.loop-kept.invariant c.in_ok-put.ensures
