use Rattle.std.proofs.Common.{◌≡◌, ◌∙◌, true, false, ap, inr, subst}
use Rattle.spec_format.specs.Strings.{string_count, strings_of}
use Rattle.snap_blob.specs.RoStrings.{section_of}
use Rattle.snap_commands.specs.Kept.{kept_globals}
use Rattle.snap_commands.proofs.OneLoading.{parts_thin, parts_unlike}
use Rattle.snap_commands.proofs.ThinSections.{FoundThin}
use Rattle.snap_commands.proofs.verify.verify.Goals as goal

pub returns-in-Ok-Some : goal.returns-in-Ok-Some
returns-in-Ok-Some c = λ fed.
    let p = c.in-Ok.parts in
    let globals = kept_globals c.in-Ok-Some.field-0-0.items in
    let thin = subst (FoundThin (strings_of (section_of p.strings)) p.startup.now p.context.now) c.in-Ok-Some.field-0-is c.in-Ok-Some.ensures in
    record {
      kind = inr (globals, parts_thin c.args.bytes.now p globals c.in-Ok.ensures thin);
      count = c.strings-count.ensures ∙ ap string_count c.in-Ok.ensures.strings;
    }

no_truth : false ≡ true → ⊥
no_truth e = absurd cc

pub returns-in-Ok-None : goal.returns-in-Ok-None
returns-in-Ok-None c = λ fed.
    let p = c.in-Ok.parts in
    record {
      other = parts_unlike c.args.bytes.now p c.in-Ok.ensures (subst (FoundThin (strings_of (section_of p.strings)) p.startup.now p.context.now) c.in-Ok-None.field-0-is c.in-Ok-None.ensures);
      not_bare = λ bare. no_truth (c.if-is_bare.ensures.1 (c.in-Ok.ensures.startup ∙ bare.startup, c.in-Ok.ensures.context ∙ bare.context));
    }
