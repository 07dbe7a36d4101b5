use Rattle.blob_rows.proofs.tests.sections.is_text_written.Goals as goal

pub is_written-requires-clause-text : goal.is_written-requires-clause-text
is_written-requires-clause-text c =
    let strings = c.deref.result.now in
    c.in_ok-text.ensures strings (rw c.deref.ensures.value (c.in_ok-strings.ensures.among c.args.unit c.requires))
