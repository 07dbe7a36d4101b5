-- Counting the entries of Maps and Sets.
use Rattle.std.proofs.Common.{◌≡◌, ℕ, zero, suc, ◌+◌, ◌*◌, ◌/◌, ◌<◌, Bool, true, false, List, [], ◌∷◌, length, take, slice_get, get_or, Some, count_by, refl, sym, ap, subst, ◌∙◌, arith}
use Rattle.std.proofs.lemmas.List.Sums.{count_by_more_no, count_by_more_yes}
use Rattle.std.proofs.lemmas.Option.{get_or_from_slice_get, slice_get_within}
use Rattle.snap_graph.specs.declared.value.Value.{Value}
use Rattle.snap_graph.specs.Lawful.{record_keys}
use Rattle.spec_values.specs.Access.{is_there}

module _ (values : List Value) (place before after : ℕ) (value : Value) (there : Bool) (stands : slice_get values place ≡ Some value) (tells : is_there value ≡ there) (so_far : before ≡ count_by is_there (take place values)) where
  is_tested : is_there (get_or values place value) ≡ there
  is_tested = ap is_there (get_or_from_slice_get values place value value stands) ∙ tells

  -- one more value is counted
  pub counted_one : there ≡ true → after ≡ before + 1 → after ≡ count_by is_there (take (place + 1) values)
  counted_one t e = e ∙ ap (λ (n : ℕ). n + 1) so_far ∙ sym (count_by_more_yes is_there values place value (slice_get_within values place value stands) (is_tested ∙ t))

  -- one more is not
  pub counted_none : there ≡ false → after ≡ before → after ≡ count_by is_there (take (place + 1) values)
  counted_none f e = e ∙ so_far ∙ sym (count_by_more_no is_there values place value (slice_get_within values place value stands) (is_tested ∙ f))

-- the key of a record stands at twice its place
pub record_at : (values : List Value) (place : ℕ) (value : Value) → 2 * place + 1 < length values → slice_get values (2 * place) ≡ Some value → slice_get (record_keys values) place ≡ Some value
record_at [] place value h e = absurd (omega arith)
record_at (key ∷ []) zero value h e = absurd (omega arith)
record_at (key ∷ []) (suc place) value h e = absurd (omega arith)
record_at (key ∷ held ∷ rest) zero value h e = e
record_at (key ∷ held ∷ rest) (suc place) value h e =
    let twice : 2 * suc place ≡ suc (suc (2 * place)) = omega arith in
    record_at rest place value (omega arith) (subst (λ (n : ℕ). slice_get (key ∷ held ∷ rest) n ≡ Some value) twice e)

pub record_count : (values : List Value) → length (record_keys values) ≡ length values / 2
record_count [] = refl
record_count (key ∷ []) = refl
record_count (key ∷ held ∷ rest) = omega (arith, record_count rest)
