-- Errors that are thrown.
use Rattle.std.specs.Prelude.{ℕ, List, codes}
use Rattle.snap_graph.specs.declared.intrinsic.TheConstants.{ERROR_PROTOTYPE, RANGE_ERROR_PROTOTYPE, REFERENCE_ERROR_PROTOTYPE, TYPE_ERROR_PROTOTYPE}
use Rattle.snap_graph.specs.declared.kind.Kind.TheVariants as kind
use Rattle.snap_graph.specs.declared.value.Value.{Value}
use Rattle.snap_graph.specs.declared.value.Value.TheVariants.{Node as At, Text}
use Rattle.spec_values.specs.Answer.{◌>>=◌, Action, give, use_key}
use Rattle.spec_values.specs.Operations.{make, put_own}
use Rattle.snap_action.specs.declared.errors.ErrorKind.{ErrorKind}
use Rattle.snap_action.specs.declared.errors.ErrorKind.TheVariants.{Error, TypeError, ReferenceError, RangeError}

-- the prototype of the errors of a kind
abbrev pub error_prototype : ErrorKind → ℕ
error_prototype Error = ERROR_PROTOTYPE
error_prototype TypeError = TYPE_ERROR_PROTOTYPE
error_prototype ReferenceError = REFERENCE_ERROR_PROTOTYPE
error_prototype RangeError = RANGE_ERROR_PROTOTYPE

-- the key of a property is used, and the property put
abbrev pub put_named : ℕ → List ℕ → Value → Action Unit
put_named number name value = use_key name >>= λ _. put_own number name value

-- an error with its message
abbrev pub error_with : ℕ → List ℕ → Action Value
error_with prototype message =
    make kind.Error (At prototype) >>= λ error.
    put_named error (codes "message") (Text message) >>= λ _.
    give (At error)
