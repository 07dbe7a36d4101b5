use Rattle.std.proofs.Common.{◌≡◌, ℕ, ◌<◌, List, [], length, map, Vec, Global, get_or, position, sym, ap, ◌∙◌, arith}
use Rattle.std.specs.Str.{bytes_eq as text_eq}
use Rattle.std.proofs.lemmas.List.{get_or-map, length-map}
use Rattle.std.proofs.lemmas.List.Quantifiers.{position-Some}
use Rattle.snap_text.specs.OwnKeys.{own_key, placed, standing}
use Rattle.snap_text.proofs.own_keys.OwnKeys.units_of.Goals as goal

-- what a vector holds stands at its place among the texts
held : (vectors : List (Vec ℕ Global)) (texts : List (List ℕ)) (v : Vec ℕ Global) (n : ℕ) → map (λ v. v.items) vectors ≡ texts → n < length texts → v ≡ get_or vectors n v → get_or texts n [] ≡ v.items
held vectors texts v n t h e =
    let within : n < length vectors = omega (arith, ap length t, length-map vectors (λ v. v.items)) in
    ap (λ (xs : List (List ℕ)). get_or xs n []) (sym t) ∙ get_or-map (λ v. v.items) vectors n v [] within ∙ sym (ap (λ (x : Vec ℕ Global). x.items) e)

-- the text of the key is what the vector at its place holds
pub returns : goal.returns
returns c =
    let text = c.requires.0 in
    let texts = c.args.self.now in
    let at = placed (position (text_eq text) texts) c.args.key c.requires.1 in
    let place : at.0 ≡ c.in-Local.number = cc in
    let within = (position-Some (text_eq text) texts at.0 [] at.1).0 in
    let read = c.index-as_slice-number.is ∙ ap (λ (vs : List (Vec ℕ Global)). get_or vs c.in-Local.number c.index-as_slice-number.result) c.as_slice.ensures.keys in
    let there = held c.self.inside.texts.keys texts c.index-as_slice-number.result c.in-Local.number c.self.view_is (omega arith) read in
    let units : c.as_slice-in-Local.result.now ≡ text = c.as_slice-in-Local.ensures.value ∙ sym there ∙ ap (λ (n : ℕ). get_or texts n []) (sym place) ∙ sym (standing texts text at.0 at.1) in
    ap (own_key texts) units ∙ c.requires.1
