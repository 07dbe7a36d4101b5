use Rattle.std.proofs.Common.{◌≡◌, ◌+◌, ℕ, List, length, ap, subst, inl, arith}
use Rattle.std.proofs.lemmas.Result.{err_from_is_err_and}
use Rattle.spec_format.specs.declared.fault.BlobKind.TheVariants.{Trailing}
use Rattle.spec_format.specs.Strings.{first_byte, string_count, string_list_checks, trailing_check}
use Rattle.spec_format.proofs.Checks.{AllHold-append, FirstFault-left, FirstFault-right}
use Rattle.snap_commands.proofs.parts.strings_alone.Goals as goal

pub returns-in_err-strings-clause-first_fault : goal.returns-in_err-strings-clause-first_fault
returns-in_err-strings-clause-first_fault c =
    let section = c.args.section.now in
    let p = err_from_is_err_and c.from_residual.result c.from_residual.ensures.1 in
    rw (p.1, p.2) (FirstFault-left (string_list_checks section c.args.base) (trailing_check section c.args.base) c.in_err-strings.field-0.0 c.in_err-strings.ensures.first_fault)

pub returns-then-rest-ne0-clause-first_fault : goal.returns-then-rest-ne0-clause-first_fault
returns-then-rest-ne0-clause-first_fault c =
    let section = c.args.section.now in
    let place : first_byte section (string_count section) + length c.rest-rest.result.now ≡ length section = subst (λ (s : List ℕ). first_byte s (string_count s) + length c.rest-rest.result.now ≡ length s) c.in_ok-strings.ensures.value c.rest-rest.ensures.place in
    FirstFault-right (string_list_checks section c.args.base) (trailing_check section c.args.base) _ c.in_ok-strings.ensures.first_fault
    (inl (λ h. absurd (omega arith), ap (λ (n : ℕ). record { kind = Trailing; at = c.args.base + n }) (omega arith)))

pub returns-clause-first_fault : goal.returns-clause-first_fault
returns-clause-first_fault c =
    let section = c.args.section.now in
    let place : first_byte section (string_count section) + length c.rest-rest.result.now ≡ length section = subst (λ (s : List ℕ). first_byte s (string_count s) + length c.rest-rest.result.now ≡ length s) c.in_ok-strings.ensures.value c.rest-rest.ensures.place in
    AllHold-append (string_list_checks section c.args.base) (trailing_check section c.args.base) c.in_ok-strings.ensures.first_fault (omega arith, tt)
