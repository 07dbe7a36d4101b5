use Rattle.std.proofs.Common.{◌≡◌, ◌++◌, length, sym, ◌∙◌, refl}
use Rattle.std.proofs.lemmas.List.{append_assoc}
use Rattle.spec_format.specs.Varint.{varint}
use Rattle.snap_blob.proofs.Parts.{same_rest}
use Rattle.snap_blob.proofs.startup_reader.read_script.Goals as goal

pub returns-in-Ok-clause-only : goal.returns-in-Ok-clause-only
returns-in-Ok-clause-only c = λ script rest small e.
    let read = c.in_ok-len.ensures.only (length script) (script ++ rest) small (e ∙ append_assoc (varint (length script)) script rest) in
    let len : c.in_ok-len.len ≡ length script = cc in
    let taken = c.in-Ok.ensures.taken in
    (refl, same_rest c.in-Ok.script.now script c.take.new.self.left rest (taken.1 ∙ len) (sym taken.0 ∙ read.1))
