use Rattle.indexmap.specs.IndexSet.{insert_key}
use Rattle.std.proofs.Common.{◌≡◌, ℕ, false, if◌then◌else◌, List, [], ◌∷◌, ◌++◌, length, map, Option, None, Some, Vec, Global, position, refl, sym, ap, ◌∙◌}
use Rattle.std.specs.Option.{option_map}
use Rattle.std.specs.List.{list_any}
use Rattle.std.specs.Str.{bytes_eq as text_eq}
use Rattle.std.proofs.lemmas.List.{length-map, map-append}
use Rattle.std.proofs.lemmas.Slice.Eq.{bytes_eq-Decides}
use Rattle.snap_text.specs.declared.key.Key.TheVariants.{Local}
use Rattle.snap_text.specs.OwnKeys.{own_key}
use Rattle.snap_text.proofs.Places.{has_position, none_passes, position-map, position_new}
use Rattle.snap_text.proofs.own_keys.OwnKeysKeys.key.Goals as goal

-- the texts that vectors hold
texts_of : List (Vec ℕ Global) → List (List ℕ)
texts_of vectors = map (λ v. v.items) vectors

-- where a text stands among vectors, it stands among the texts that they hold
seen : (vectors : List (Vec ℕ Global)) (texts : List (List ℕ)) (text units : List ℕ) (place : Option ℕ) → texts_of vectors ≡ texts → units ≡ text → place ≡ position (λ v. text_eq units v.items) vectors → position (text_eq text) texts ≡ place
unfolding texts_of
seen vectors texts text units place t u p =
    ap (position (text_eq text)) (sym t) ∙ position-map (λ v. v.items) (text_eq text) vectors ∙ ap (λ (x : List ℕ). position (λ v. text_eq x v.items) vectors) (sym u) ∙ sym p

pub returns-in-Some-clause-key : goal.returns-in-Some-clause-key
unfolding texts_of seen
returns-in-Some-clause-key c =
    ap (option_map Local) (seen c.self.inside.texts.keys c.args.self.now c.args.text.now c.units.result.now (Some c.in-Some.number) c.self.view_is c.units.ensures c.in-Some.ensures.index)

pub returns-then-number-clause-known : goal.returns-then-number-clause-known
unfolding texts_of
returns-then-number-clause-known c =
    λ among. absurd (has_position c.args.self.now c.args.text.now among (seen c.self.inside.texts.keys c.args.self.now c.args.text.now c.units.result.now None c.self.view_is c.units.ensures c.in_default.ensures.index))

pub returns-in_err-text-clause-known : goal.returns-in_err-text-clause-known
unfolding texts_of
returns-in_err-text-clause-known c =
    λ among. absurd (has_position c.args.self.now c.args.text.now among (seen c.self.inside.texts.keys c.args.self.now c.args.text.now c.units.result.now None c.self.view_is c.units.ensures c.in_default.ensures.index))

pub returns-in_err-insert-clause-known : goal.returns-in_err-insert-clause-known
unfolding texts_of
returns-in_err-insert-clause-known c =
    λ among. absurd (has_position c.args.self.now c.args.text.now among (seen c.self.inside.texts.keys c.args.self.now c.args.text.now c.units.result.now None c.self.view_is c.units.ensures c.in_default.ensures.index))

-- a vector that goes last among vectors that do not have its text
added : (vectors after : List (Vec ℕ Global)) (texts : List (List ℕ)) (text : List ℕ) (v : Vec ℕ Global) → texts_of vectors ≡ texts → position (text_eq text) texts ≡ None → v.items ≡ text
    → after ≡ insert_key (λ x y. text_eq x.items y.items) vectors v → own_key (texts_of after) text ≡ Some (Local (length vectors))
unfolding texts_of
added vectors after texts text v t none e k =
    let apart : list_any (λ y. text_eq v.items y.items) vectors ≡ false = none_passes _ vectors (sym (position-map (λ w. w.items) (text_eq v.items) vectors) ∙ ap (position (text_eq v.items)) t ∙ ap (λ (x : List ℕ). position (text_eq x) texts) e ∙ none) in
    let last : after ≡ vectors ++ v ∷ [] = k ∙ ap (λ b. if b then vectors else vectors ++ v ∷ []) apart in
    let all : texts_of after ≡ texts ++ text ∷ [] = ap texts_of last ∙ map-append (λ w. w.items) vectors (v ∷ []) ∙ cc in
    let many : length texts ≡ length vectors = ap length (sym t) ∙ length-map vectors (λ w. w.items) in
    ap (λ (xs : List (List ℕ)). own_key xs text) all ∙ ap (option_map Local) (position_new (text_eq text) texts text none ((bytes_eq-Decides text text).1 refl) ∙ ap Some many)

pub returns-clause-key : goal.returns-clause-key
unfolding texts_of
returns-clause-key c =
    let none = seen c.self.inside.texts.keys c.args.self.now c.args.text.now c.units.result.now None c.self.view_is c.units.ensures c.in_default.ensures.index in
    added c.self.inside.texts.keys c.insert.new.self.keys c.args.self.now c.args.text.now c.in_ok-text.text c.self.view_is none (c.in_ok-text.ensures.items ∙ c.units-2.ensures) c.in_ok-insert.ensures.keys
    ∙ ap (λ (n : ℕ). Some (Local n)) (sym c.len-number.ensures.len)
