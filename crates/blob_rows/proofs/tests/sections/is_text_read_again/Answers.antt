use Rattle.std.proofs.Common.{arith}
use Rattle.blob_rows.proofs.tests.sections.is_text_read_again.Goals as goal

pub is_read_again-requires-clause-text : goal.is_read_again-requires-clause-text
is_read_again-requires-clause-text c =
    let strings = c.deref.result.now in
    c.in_ok-text.ensures strings (rw c.deref.ensures.value (c.in_ok-strings.ensures.among 200 (omega arith)))
