-- `+`, by whether a text is on either side.
use Rattle.std.proofs.Common.{◌≡◌, ◌+ℤ◌, true, false, refl, sym}
use Rattle.std.proofs.lemmas.Bool.{false≢true}
use Rattle.snap_graph.specs.declared.value.Value.{Value}
use Rattle.snap_graph.specs.declared.value.Value.TheVariants.{Text}
use Rattle.snap_oper.specs.Texts.{is_text}
use Rattle.spec_values.specs.Conversions.{safe}
use Rattle.spec_values.specs.Operators.{added, joined_values, on_numbers}

-- with no text, it adds
pub plain_sum : (left right : Value) → is_text left ≡ false → is_text right ≡ false → added left right ≡ on_numbers (λ y z. safe (y +ℤ z)) left right
plain_sum (Text text) right e f = absurd (false≢true (sym e))
plain_sum left (Text text) e f = absurd (false≢true (sym f))
plain_sum left right e f = refl

-- with a text on the left, it joins
pub text_on_left : (left right : Value) → is_text left ≡ true → added left right ≡ joined_values left right
text_on_left (Text text) right e = refl
text_on_left left right e = absurd (false≢true e)

-- with a text on the right, it joins
pub text_on_right : (left right : Value) → is_text right ≡ true → added left right ≡ joined_values left right
text_on_right (Text text) right e = refl
text_on_right left (Text text) e = refl
text_on_right left right e = absurd (false≢true e)
