use Rattle.std.proofs.Common.{◌++◌}
use Rattle.spec_format.specs.Strings.{string_list_checks, trailing_check}
use Rattle.spec_format.proofs.Checks.{one_fault, no_fault}
use Rattle.spec_format.proofs.laws.one_string_fault.Goals as goal

pub returns : goal.returns
returns c = record {
  one = λ section base f g. one_fault (string_list_checks section base ++ trailing_check section base) f g;
  none = λ section base f. no_fault (string_list_checks section base ++ trailing_check section base) f;
}
