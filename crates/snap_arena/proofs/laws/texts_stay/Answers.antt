use Rattle.snap_arena.specs.Laws.{extends_itself, extends_still, held_still, text_still}
use Rattle.snap_arena.proofs.laws.texts_stay.Goals as goal

pub returns-clause-itself : goal.returns-clause-itself
returns-clause-itself c = extends_itself

pub returns-clause-still : goal.returns-clause-still
returns-clause-still c = extends_still

pub returns-clause-held : goal.returns-clause-held
returns-clause-held c = held_still

pub returns-clause-text : goal.returns-clause-text
returns-clause-text c = text_still
