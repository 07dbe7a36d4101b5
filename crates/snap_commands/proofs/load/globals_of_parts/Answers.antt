use Rattle.std.proofs.Common.{◌≡◌, ℕ, List, ◌∙◌, subst}
use Rattle.std.specs.Prelude.{IfOk}
use Rattle.spec_format.specs.Strings.{strings_of}
use Rattle.snap_blob.specs.RoStrings.{section_of}
use Rattle.snap_commands.proofs.ThinSections.{FoundThin}
use Rattle.snap_commands.proofs.load.globals_of_parts.Goals as goal

pub returns : goal.returns
returns c =
    let startup = c.args.parts.now.startup.now in
    let context = c.args.parts.now.context.now in
    let same : c.deref.result.now ≡ strings_of (section_of c.args.parts.now.strings) = c.deref.ensures.value ∙ c.in_ok-strings.ensures in
    subst (λ (s : List (List ℕ)). IfOk c.globals_of_sections.result (FoundThin s startup context)) same c.globals_of_sections.ensures
