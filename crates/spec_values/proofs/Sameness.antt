-- Values that `===` finds the same.
use Rattle.std.proofs.Common.{◌≡◌, Bool, true, false, refl, ap, subst}
use Rattle.std.proofs.lemmas.Bool.{eq-eqb, eqb-true, false≢true}
use Rattle.std.proofs.lemmas.Bool.Decides.{Decides-int_eq}
use Rattle.std.proofs.lemmas.Slice.Eq.{bytes_eq-Decides}
use Rattle.snap_graph.specs.declared.value.Value.{Value}
use Rattle.snap_graph.specs.declared.value.Value.TheVariants.{Undefined, Null, Bool as Truth, Int, Text, Node as At, Empty}
use Rattle.spec_values.specs.Operators.{bool_eq, same_value}

same_truth : (b c : Bool) → bool_eq b c ≡ true → b ≡ c
same_truth true true e = refl
same_truth true false e = absurd (false≢true e)
same_truth false true e = absurd (false≢true e)
same_truth false false e = refl

pub one_value : (value other : Value) → same_value value other ≡ true → value ≡ other
one_value Undefined Undefined e = refl
one_value Null Null e = refl
one_value (Truth b) (Truth c) e = ap Truth (same_truth b c e)
one_value (Int y) (Int z) e = ap Int ((Decides-int_eq y z).0 e)
one_value (Text text) (Text other) e = ap Text ((bytes_eq-Decides text other).0 e)
one_value (At node) (At other) e = ap At (eqb-true node other e)
one_value Empty Empty e = refl
one_value value other e = absurd (false≢true e)

itself : (value : Value) → same_value value value ≡ true
itself Undefined = refl
itself Null = refl
itself (Truth true) = refl
itself (Truth false) = refl
itself (Int z) = (Decides-int_eq z z).1 refl
itself (Text text) = (bytes_eq-Decides text text).1 refl
itself (At node) = eq-eqb node node refl
itself Empty = refl

pub found_same : (value other : Value) → value ≡ other → same_value value other ≡ true
found_same value other e = subst (λ (v : Value). same_value value v ≡ true) e (itself value)
