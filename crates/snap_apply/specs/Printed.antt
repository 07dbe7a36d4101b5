-- What is printed of a value.
use Rattle.std.specs.Prelude.{◌≡◌, ℕ, List, ◌++◌, Result, Ok, Err}
use Rattle.snap_base.specs.declared.stop.Stop.{Stop}
use Rattle.snap_action.specs.declared.fault.Abrupt.{Abrupt}
use Rattle.snap_action.specs.declared.fault.Abrupt.TheVariants.{Threw, Stopped, NoMemory}
use Rattle.snap_text.specs.Utf8.{utf8_of}

-- the UTF-8 form of the text that is defined was appended, or nothing was where evaluation stops or memory was refused
abbrev pub Prints : {H : Type 0} → Result Unit (Abrupt H) → List ℕ → List ℕ → Result (List ℕ) Stop → Type 0
Prints (Ok done) before after defined = (text : List ℕ) × (defined ≡ Ok text) × (after ≡ before ++ utf8_of text)
Prints (Err (Threw held)) before after defined = ⊥
Prints (Err (Stopped why)) before after defined = (defined ≡ Err why) × (after ≡ before)
Prints (Err NoMemory) before after defined = after ≡ before
