use Rattle.std.proofs.Common.{subst}
use Rattle.spec_format.specs.Strings.{strings_of}
use Rattle.snap_blob.specs.RoStrings.{section_of}
use Rattle.snap_commands.specs.Kept.{kept_globals}
use Rattle.snap_commands.proofs.OneLoading.{parts_apart, parts_thin, parts_unlike}
use Rattle.snap_commands.proofs.ThinSections.{FoundThin}
use Rattle.snap_commands.proofs.load.load.Goals as goal

pub returns-in-Ok-Some-clause-loads : goal.returns-in-Ok-Some-clause-loads
returns-in-Ok-Some-clause-loads c = λ fed.
    let p = c.in-Ok.parts in
    let thin = subst (FoundThin (strings_of (section_of p.strings)) p.startup.now p.context.now) c.in-Ok-Some.field-0-is c.in-Ok-Some.ensures in
    parts_thin c.args.bytes.now p (kept_globals c.in-Ok-Some.globals.items) c.in-Ok.ensures thin

pub returns-in-Ok-Some-clause-apart : goal.returns-in-Ok-Some-clause-apart
returns-in-Ok-Some-clause-apart c =
    let p = c.in-Ok.parts in
    let thin = subst (FoundThin (strings_of (section_of p.strings)) p.startup.now p.context.now) c.in-Ok-Some.field-0-is c.in-Ok-Some.ensures in
    parts_apart c.args.bytes.now p (kept_globals c.in-Ok-Some.globals.items) c.in-Ok.ensures thin

pub returns-in-Ok-None-clause-loads : goal.returns-in-Ok-None-clause-loads
returns-in-Ok-None-clause-loads c = λ fed.
    let p = c.in-Ok.parts in
    parts_unlike c.args.bytes.now p c.in-Ok.ensures (subst (FoundThin (strings_of (section_of p.strings)) p.startup.now p.context.now) c.in-Ok-None.field-0-is c.in-Ok-None.ensures)
