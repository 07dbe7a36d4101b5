use Rattle.std.proofs.Common.{◌<◌, add-one, arith}
use Rattle.std.proofs.lemmas.Result.{err_from_is_err_and}
use Rattle.spec_format.specs.Strings.{string_count, string_end_checks}
use Rattle.spec_format.proofs.Checks.{each_fault, each_more}
use Rattle.snap_blob.proofs.ro_strings.check_string_ends.Goals as goal

pub returns-in_err-before : goal.returns-in_err-before
returns-in_err-before c =
    let section = c.args.section.now in
    let below : c.loop-i.i < string_count section = omega arith in
    let p = err_from_is_err_and c.from_residual.result c.from_residual.ensures.1 in
    rw (p.1, p.2) (each_fault (string_end_checks section c.args.base) (string_count section) c.loop-i.i c.in_err-before.field-0.0 below c.loop-i.invariant.hold c.in_err-before.ensures.first_fault)

pub loop-i-preserved : goal.loop-i-preserved
loop-i-preserved c = record {
  hold = each_more (string_end_checks c.args.section.now c.args.base) c.loop-i.i c.loop-i.invariant.hold c.in_ok-before.ensures.first_fault;
  reached = omega (arith, c.in_ok-before.ensures.first_fault.0);
  ended = rw add-one c.in_ok-before.ensures.value;
}
