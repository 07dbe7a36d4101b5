use Rattle.std.proofs.Common.{◌∙◌, ap, sym, Some}
use Rattle.snap_io.proofs.Lookups.{held_by-at, held_by-nowhere}
use Rattle.snap_io.proofs.named.find.Goals as goal

pub returns-in-Some : goal.returns-in-Some
returns-in-Some c =
    ap Some c.as_slice.ensures.value ∙ sym (held_by-at c.args.name.now c.args.files.now c.in-Some.place c.index-files-place.result c.in-Some.ensures.found)

pub returns-in-None : goal.returns-in-None
returns-in-None c = sym (held_by-nowhere c.args.name.now c.args.files.now c.in-None.ensures.none)
