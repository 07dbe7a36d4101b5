-- A text and another value.
use Rattle.std.proofs.Common.{◌≡◌, ℕ, true, List, Some, is_some, refl, ap}
use Rattle.std.proofs.lemmas.Bool.{false≢true}
use Rattle.snap_graph.specs.declared.value.Value.{Value}
use Rattle.snap_graph.specs.declared.value.Value.TheVariants.{Undefined, Null, Bool as Truth, Int, Node as At, Text, Empty}
use Rattle.snap_store.specs.Calls.{text_units, units_in}

-- the text of a view is the value that is held
pub viewed : (value : Value) (text : List ℕ) → Some text ≡ text_units value → Text text ≡ value
viewed Undefined text e = absurd cc
viewed Null text e = absurd cc
viewed (Truth b) text e = absurd cc
viewed (Int z) text e = absurd cc
viewed (Text other) text e = ap Text cc
viewed (At number) text e = absurd cc
viewed Empty text e = absurd cc

pub its_text : (value : Value) → is_some (text_units value) ≡ true → Text (units_in value) ≡ value
its_text Undefined e = absurd (false≢true e)
its_text Null e = absurd (false≢true e)
its_text (Truth b) e = absurd (false≢true e)
its_text (Int z) e = absurd (false≢true e)
its_text (Text text) e = refl
its_text (At number) e = absurd (false≢true e)
its_text Empty e = absurd (false≢true e)
