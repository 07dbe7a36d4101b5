use Rattle.heap_words.proofs.values.value_of.Goals as goal

pub returns-in-None : goal.returns-in-None
returns-in-None c = λ count last. c.number_or_text.ensures count
