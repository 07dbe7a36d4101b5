use Rattle.std.proofs.Common.{◌<◌, add-one, arith}
use Rattle.std.proofs.lemmas.Result.{err_from_is_err_and}
use Rattle.spec_format.specs.Strings.{string_checks, string_count}
use Rattle.spec_format.proofs.Checks.{each_fault, each_more}
use Rattle.snap_blob.proofs.StringLists.{end_ordered}
use Rattle.snap_blob.proofs.ro_strings.check_strings.Goals as goal

pub string_between-requires-clause-ordered : goal.string_between-requires-clause-ordered
string_between-requires-clause-ordered c =
    let section = c.args.section.now in
    let below : c.loop-i.i < string_count section = omega arith in
    omega (arith, end_ordered section c.args.base c.loop-i.i below c.requires.ends)

pub returns-in_err-before : goal.returns-in_err-before
returns-in_err-before c =
    let section = c.args.section.now in
    let below : c.loop-i.i < string_count section = omega arith in
    let p = err_from_is_err_and c.from_residual.result c.from_residual.ensures.1 in
    rw (p.1, p.2) (each_fault (string_checks section c.args.base) (string_count section) c.loop-i.i c.in_err-before.field-0.0 below c.loop-i.invariant.hold c.in_err-before.ensures.first_fault)

pub loop-i-preserved : goal.loop-i-preserved
loop-i-preserved c = record {
  hold = each_more (string_checks c.args.section.now c.args.base) c.loop-i.i c.loop-i.invariant.hold c.in_ok-before.ensures.first_fault;
  reached = omega (arith, c.in_ok-before.ensures.first_fault.0);
  begins = rw add-one (omega arith);
  above = rw add-one c.in_ok-before.ensures.value;
}
