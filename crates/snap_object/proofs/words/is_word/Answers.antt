use Rattle.snap_object.proofs.Spelling.{is_word}
use Rattle.snap_object.proofs.words.is_word.Goals as goal

pub returns : goal.returns
returns c = is_word c.same.result c.args.text.now c.args.word.now c.same.ensures
