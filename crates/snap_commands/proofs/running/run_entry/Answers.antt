use Rattle.std.proofs.Common.{refl, ap, sym, ◌∙◌, List, ℕ}
use Rattle.snap_commands.specs.Answers.{entry_number, ran}
use Rattle.snap_commands.specs.Kept.{kept_globals}
use Rattle.snap_commands.proofs.Builds.{has_fetched}
use Rattle.snap_commands.proofs.RunsOn.{runs_printed, runs_unfetched, runs_unprinted}
use Rattle.snap_commands.proofs.running.run_entry.Goals as goal

-- src/running.rt:74:23
pub returns-in-Err : goal.returns-in-Err
returns-in-Err g c = runs_unfetched c.args.entry.now _ _ c.in-Err.fault _ c.in-Err.ensures c.refused.ensures

-- src/running.rt:71:1
pub returns-in-Ok-print : goal.returns-in-Ok-print
returns-in-Ok-print g c =
    let globals = kept_globals c.args.loaded.now.globals.items in
    runs_printed c.args.entry.now globals _ c.in-Ok.bytes.items c.in-Ok-print.printed.items _ (has_fetched _ c.args.entry.now _ c.in-Ok.bytes c.in-Ok.ensures) (ap (λ (xs : List ℕ). ran entry_number xs globals) (sym c.deref.ensures.value) ∙ c.in-Ok-print.ensures.ok) refl

-- src/running.rt:65:1
pub returns : goal.returns
returns g c =
    let globals = kept_globals c.args.loaded.now.globals.items in
    runs_unprinted c.args.entry.now globals _ c.in-Ok.bytes.items c.in-Err-print.fault _ (has_fetched _ c.args.entry.now _ c.in-Ok.bytes c.in-Ok.ensures)
    (λ fed. ap (λ (xs : List ℕ). ran entry_number xs globals) (sym c.deref.ensures.value) ∙ c.in-Err-print.ensures.refused c.in-Err-print.fault refl fed) c.refused-in-Err-print.ensures
