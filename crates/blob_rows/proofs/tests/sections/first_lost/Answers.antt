use Rattle.blob_rows.proofs.tests.sections.first_lost.Goals as goal

pub is_read_again-requires-clause-text : goal.is_read_again-requires-clause-text
is_read_again-requires-clause-text c = c.value.ensures c.deref.result.now
