-- The words of `typeof`.
use Rattle.std.specs.Prelude.{ℕ, List, codes}
use Rattle.snap_action.specs.Gives.{Shows}
use Rattle.snap_apply.specs.declared.asking.TypeWord.{TypeWord}
use Rattle.snap_apply.specs.declared.asking.TypeWord.TheVariants.{Undefined, Object, Boolean, Number, String, Function}

-- the text of each
abbrev pub type_text : TypeWord → List ℕ
type_text Undefined = codes "undefined"
type_text Object = codes "object"
type_text Boolean = codes "boolean"
type_text Number = codes "number"
type_text String = codes "string"
type_text Function = codes "function"

-- a word, seen as its text
abbrev pub as_type : Shows TypeWord (List ℕ)
as_type = record { view = type_text; owned = λ word. Unit {0} }
