use Rattle.std.proofs.Common.{rules, ◌≡◌, ◌∙◌, ap, subst, arith}
use Rattle.spec_format.specs.Check.{AllHold}
use Rattle.spec_format.specs.Container.{section, section_start}
use Rattle.spec_format.specs.Number.{AreBytes}
use Rattle.spec_format.proofs.StringLists.{whole_spelled}
use Rattle.snap_commands.specs.Plain.{strings_checks}
use Rattle.snap_commands.proofs.parts.parts_of.Goals as goal

pub returns : goal.returns
returns c =
    let bytes = c.args.bytes.now in
    let same : c.in-Ok.container ≡ bytes = c.in-Ok.ensures.value in
    let strings : c.section-section.result.now ≡ section bytes 1 = c.section-section.ensures.bytes ∙ ap (λ b. section b 1) same in
    let startup : c.section-2.result.now ≡ section bytes 2 = c.section-2.ensures.bytes ∙ ap (λ b. section b 2) same in
    let context : c.section-3.result.now ≡ section bytes 3 = c.section-3.ensures.bytes ∙ ap (λ b. section b 3) same in
    let base : c.start.result ≡ section_start bytes 1 = c.start.ensures ∙ ap (λ b. section_start b 1) same in
    let hold : AllHold (strings_checks bytes) = search rules in
    record {
      container = c.in-Ok.ensures.first_fault;
      plain = record {
        sections = search rules;
        externals = search rules;
        nodes = search rules;
      };
      strings_hold = hold;
      strings = c.in-Ok-strings_alone.ensures.value ∙ strings;
      lawful = (whole_spelled (section bytes 1) (section_start bytes 1) (subst AreBytes strings c.in-Ok-strings_alone.ensures.bytes) hold).0;
      startup = startup;
      startup_short = omega (arith, c.section-2.ensures.within);
      context = context;
      context_short = omega (arith, c.section-3.ensures.within);
    }
