use Rattle.std.proofs.lemmas.Result.{err_from_is_err_and}
use Rattle.spec_format.specs.Strings.{string_count}
use Rattle.snap_blob.proofs.StringLists.{all_lie, fault_at_node_ends, fault_at_string_ends, fault_at_strings, start_fits, string_ends_fit, whole_list}
use Rattle.snap_blob.proofs.ro_strings.RoStrings.take.Goals as goal

pub returns-in_err-check_string_ends-clause-first_fault : goal.returns-in_err-check_string_ends-clause-first_fault
returns-in_err-check_string_ends-clause-first_fault c =
    let p = err_from_is_err_and c.from_residual-in_err-check_string_ends.result c.from_residual-in_err-check_string_ends.ensures.1 in
    rw (p.1, p.2) (fault_at_string_ends c.args.section.now c.args.base c.in_err-check_string_ends.field-0.0 c.in_ok-check_counts.ensures c.in_err-check_string_ends.ensures)

pub check_node_ends-requires-clause-strings : goal.check_node_ends-requires-clause-strings
check_node_ends-requires-clause-strings c =
    string_ends_fit c.args.section.now c.args.base (string_count c.args.section.now) c.in_ok-check_counts.ensures.1.0 c.in_ok-check_string_ends.ensures

pub returns-in_err-check_node_ends-clause-first_fault : goal.returns-in_err-check_node_ends-clause-first_fault
returns-in_err-check_node_ends-clause-first_fault c =
    let p = err_from_is_err_and c.from_residual-in_err-check_node_ends.result c.from_residual-in_err-check_node_ends.ensures.1 in
    rw (p.1, p.2) (fault_at_node_ends c.args.section.now c.args.base c.in_err-check_node_ends.field-0.0 c.in_ok-check_counts.ensures c.in_ok-check_string_ends.ensures c.in_err-check_node_ends.ensures)

pub check_strings-requires-clause-entries : goal.check_strings-requires-clause-entries
check_strings-requires-clause-entries c =
    start_fits c.args.section.now c.args.base c.in_ok-check_counts.ensures.1.0 c.in_ok-check_string_ends.ensures c.in_ok-check_node_ends.ensures

pub returns-in_err-check_strings-clause-first_fault : goal.returns-in_err-check_strings-clause-first_fault
returns-in_err-check_strings-clause-first_fault c =
    let p = err_from_is_err_and c.from_residual-in_err-check_strings.result c.from_residual-in_err-check_strings.ensures.1 in
    rw (p.1, p.2) (fault_at_strings c.args.section.now c.args.base c.in_err-check_strings.field-0.0 c.in_ok-check_counts.ensures c.in_ok-check_string_ends.ensures c.in_ok-check_node_ends.ensures c.in_err-check_strings.ensures)

pub invariant_of-result : goal.invariant_of-result
invariant_of-result c = record {
  counted = start_fits c.args.section.now c.args.base c.in_ok-check_counts.ensures.1.0 c.in_ok-check_string_ends.ensures c.in_ok-check_node_ends.ensures;
  placed = all_lie c.args.section.now c.args.base c.in_ok-check_string_ends.ensures c.in_ok-check_strings.ensures;
}

pub returns-clause-first_fault : goal.returns-clause-first_fault
returns-clause-first_fault c =
    whole_list c.args.section.now c.args.base record { counts = c.in_ok-check_counts.ensures; string_ends = c.in_ok-check_string_ends.ensures; node_ends = c.in_ok-check_node_ends.ensures; strings = c.in_ok-check_strings.ensures }
