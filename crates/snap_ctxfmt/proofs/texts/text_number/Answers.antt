use Rattle.snap_ctxfmt.proofs.Places.{placed}
use Rattle.snap_ctxfmt.proofs.texts.text_number.Goals as goal

pub unwrap-requires : goal.unwrap-requires
unwrap-requires c = rw c.place_of.ensures (placed c.args.strings.now c.args.text.now c.requires.among)
