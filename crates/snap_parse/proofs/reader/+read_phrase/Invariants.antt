use Rattle.snap_parse.proofs.reader.+read_phrase.Given as goal

abbrev pub decreases-read_phrase : goal.decreases-read_phrase
decreases-read_phrase l = l.levels
