use Rattle.std.proofs.Common.{[]}
use Rattle.spec_format.specs.Strings.{string_list}
use Rattle.spec_format.proofs.StringLists.{checks_from, read_string_list, strings_of_read, node_ends_of_read, checked_read, fills_read}
use Rattle.spec_format.proofs.laws.strings_are_read.Goals as goal

pub returns : goal.returns
returns c = record {
  passes = λ strings node_ends rest base holds ends.
      let r = read_string_list strings node_ends rest holds ends.0 in
      checks_from (string_list strings node_ends rest) base (checked_read (string_list strings node_ends rest) strings node_ends rest holds r);
  fills = λ strings node_ends base holds ends.
      (fills_read (string_list strings node_ends []) strings node_ends (read_string_list strings node_ends [] holds ends.0), tt);
  strings = λ strings node_ends rest holds ends.
      strings_of_read (string_list strings node_ends rest) strings node_ends rest (read_string_list strings node_ends rest holds ends.0);
  node_ends = λ strings node_ends rest holds ends.
      node_ends_of_read (string_list strings node_ends rest) strings node_ends rest ends.1 (read_string_list strings node_ends rest holds ends.0);
}
