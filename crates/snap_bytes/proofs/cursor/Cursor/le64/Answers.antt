use Rattle.std.proofs.Common.{sym}
use Rattle.std.proofs.lemmas.List.{drop_at}
use Rattle.snap_bytes.proofs.cursor.Cursor.le64.Goals as goal

pub returns-clause-behind : goal.returns-clause-behind
returns-clause-behind c =
    let taken = c.in_ok-field.ensures.taken in
    (rw taken.0 (sym (drop_at _ _ 8 taken.1)), taken.2)
