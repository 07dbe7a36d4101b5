use Rattle.blob_rows.proofs.tests.sections.first_miswritten.Goals as goal

pub is_written-requires-clause-text : goal.is_written-requires-clause-text
is_written-requires-clause-text c = c.value.ensures c.deref.result.now
