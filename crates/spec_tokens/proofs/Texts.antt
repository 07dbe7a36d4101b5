-- The end of a text, item by item.
use Rattle.std.proofs.Common.{◌≡◌, ℕ, zero, suc, ◌+◌, ◌-◌, ◌<◌, List, [], ◌∷◌, ◌++◌, length, drop, get_or, Some, None, Ok, Err, refl, sym, ap, ◌∙◌, append_assoc, add-zero, arith}
use Rattle.std.proofs.lemmas.Bool.{eq-eqb, ne_eqb}
use Rattle.std.proofs.lemmas.List.{append-nil}
use Rattle.spec_tokens.specs.declared.fault.LexFault.{LexFault}
use Rattle.spec_tokens.specs.declared.fault.LexFault.TheVariants.{Unclosed}
use Rattle.spec_tokens.specs.Text.{item_len, text_end, unit_at, units_from}
use Rattle.spec_tokens.specs.declared.piece.Escape.{Escape}

-- bytes that are passed
pub text_end-passed : (quote start passed at : ℕ) (bytes : List ℕ) → text_end quote start passed at bytes ≡ text_end quote start 0 (at + passed) (drop passed bytes)
unfolding text_end
text_end-passed quote start zero at bytes = rw add-zero refl
text_end-passed quote start (suc passed) at [] = refl
text_end-passed quote start (suc passed) at (b ∷ bytes) =
    text_end-passed quote start passed (at + 1) bytes ∙ ap (λ n. text_end quote start 0 n (drop passed bytes)) (omega arith)

-- the quote ends it
pub text_end-quote : (quote start at : ℕ) (bytes : List ℕ) → 0 < length bytes → get_or bytes 0 0 ≡ quote → text_end quote start 0 at bytes ≡ Ok (at + 1)
unfolding text_end
text_end-quote quote start at [] some e = absurd (omega arith)
text_end-quote quote start at (b ∷ bytes) some e = rw (eq-eqb b quote e) refl

-- an item is passed
pub text_end-item : (quote start at len : ℕ) (bytes : List ℕ) → 0 < length bytes → (get_or bytes 0 0 ≡ quote → ⊥) → 0 < len → item_len start at bytes ≡ Ok len → text_end quote start 0 at bytes ≡ text_end quote start 0 (at + len) (drop len bytes)
unfolding text_end
text_end-item quote start at zero bytes some other positive item = absurd (omega arith)
text_end-item quote start at (suc len) [] some other positive item = absurd (omega arith)
text_end-item quote start at (suc len) (b ∷ bytes) some other positive item =
    let one_less : suc len - 1 ≡ len = omega arith in
    rw (ne_eqb b quote other, item, one_less)
    (text_end-passed quote start len (at + 1) bytes ∙ ap (λ n. text_end quote start 0 n (drop len bytes)) (omega arith))

-- an item is wrong
pub text_end-wrong : (quote start at : ℕ) (bytes : List ℕ) (fault : LexFault) → 0 < length bytes → (get_or bytes 0 0 ≡ quote → ⊥) → item_len start at bytes ≡ Err fault → text_end quote start 0 at bytes ≡ Err fault
unfolding text_end
text_end-wrong quote start at [] fault some other item = absurd (omega arith)
text_end-wrong quote start at (b ∷ bytes) fault some other item = rw (ne_eqb b quote other, item) refl

-- nothing is left
pub text_end-none : (quote start at : ℕ) (bytes : List ℕ) → length bytes ≡ 0 → text_end quote start 0 at bytes ≡ Err (Unclosed start)
unfolding text_end
text_end-none quote start at [] none = refl
text_end-none quote start at (b ∷ bytes) none = absurd (omega arith)

-- bytes that are passed
units_from-passed : (passed : ℕ) (bytes : List ℕ) → units_from passed bytes ≡ units_from 0 (drop passed bytes)
unfolding units_from
units_from-passed zero bytes = refl
units_from-passed (suc passed) [] = refl
units_from-passed (suc passed) (b ∷ bytes) = units_from-passed passed bytes

-- a unit is passed
pub units_from-unit : (bytes : List ℕ) (found : Escape) → 0 < length bytes → 0 < found.len → unit_at bytes ≡ Some found → units_from 0 bytes ≡ found.unit ∷ units_from 0 (drop found.len bytes)
unfolding units_from
units_from-unit [] found some positive is = absurd (omega arith)
units_from-unit (b ∷ bytes) found some positive is =
    let len : found.len ≡ suc (found.len - 1) = omega arith in
    rw (is, units_from) (ap (λ units. found.unit ∷ units) (units_from-passed (found.len - 1) bytes ∙ ap (λ n. units_from 0 (drop n (b ∷ bytes))) (sym len)))

-- there is no unit
pub units_from-wrong : (bytes : List ℕ) → 0 < length bytes → unit_at bytes ≡ None → units_from 0 bytes ≡ []
unfolding units_from
units_from-wrong [] some is = absurd (omega arith)
units_from-wrong (b ∷ bytes) some is = rw (is, units_from) refl

-- nothing is left
pub units_from-none : (bytes : List ℕ) → length bytes ≡ 0 → units_from 0 bytes ≡ []
unfolding units_from
units_from-none [] none = refl
units_from-none (b ∷ bytes) none = absurd (omega arith)

-- what the units so far and those of what is left come to stays, unit by unit
pub units_from-step : (units now bytes rest whole : List ℕ) (unit : ℕ) (found : Escape) → 0 < length bytes → 0 < found.len → unit_at bytes ≡ Some found → unit ≡ found.unit → now ≡ units ++ unit ∷ [] → rest ≡ drop found.len bytes → units ++ units_from 0 bytes ≡ whole → now ++ units_from 0 rest ≡ whole
units_from-step units now bytes rest whole unit found some positive is unit_is now_is rest_is so_far =
    rw (now_is, rest_is, unit_is, append_assoc) (ap (λ t. units ++ t) (sym (units_from-unit bytes found some positive is)) ∙ so_far)

-- where nothing more is read, the units so far are all
pub units_from-all : (units bytes whole : List ℕ) → units_from 0 bytes ≡ [] → units ++ units_from 0 bytes ≡ whole → units ≡ whole
units_from-all units bytes whole none so_far = sym (append-nil units) ∙ ap (λ t. units ++ t) (sym none) ∙ so_far
