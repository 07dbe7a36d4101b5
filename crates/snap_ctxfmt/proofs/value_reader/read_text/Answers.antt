use Rattle.std.proofs.Common.{◌≡◌, [], get_or, arith}
use Rattle.std.proofs.lemmas.Grind.{common_steps}
use Rattle.snap_ctxfmt.proofs.Places.{text_spells}
use Rattle.snap_ctxfmt.proofs.value_reader.read_text.Goals as goal

pub returns-clause-some : goal.returns-clause-some
returns-clause-some c =
    let here : c.in_ok-text.text ≡ get_or c.args.strings.now c.in-Some.number [] = grind (arith, common_steps) in
    text_spells c.args.strings.now c.in_ok-text.text c.in-Some.number c.args.cursor.now.left c.read_number.new.cursor.left c.requires c.if-number-strings.false here
    c.in-Some.ensures.some
