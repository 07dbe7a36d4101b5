-- Bytes at the front of what is left.
use Rattle.std.proofs.Common.{◌≡◌, ℕ, List, [], ◌∷◌, ◌++◌, length, get_or, take, drop, refl, sym, ap, ◌∙◌, arith}
use Rattle.std.proofs.lemmas.List.{append-nil, drop_at, take_at}

-- what follows fronts of one length
pub same_rest : (a b x y : List ℕ) → length a ≡ length b → a ++ x ≡ b ++ y → x ≡ y
same_rest a b x y len e = sym (drop_at a x (length a) refl) ∙ ap (drop (length a)) e ∙ drop_at b y (length a) (sym len)

-- fronts of one length are the same
pub same_front : (a b x y : List ℕ) → length a ≡ length b → a ++ x ≡ b ++ y → a ≡ b
same_front a b x y len e = sym (take_at a x (length a) refl) ∙ ap (take (length a)) e ∙ take_at b y (length a) (sym len)

-- a field of one byte
pub one_byte : (field left rest : List ℕ) → length field ≡ 1 → left ≡ field ++ rest → left ≡ get_or field 0 0 ∷ rest
one_byte [] left rest one e = absurd (omega (arith, one))
one_byte (b ∷ []) left rest one e = e
one_byte (b ∷ c ∷ field) left rest one e = absurd (omega (arith, one))

-- a list of no length has nothing in it
pub nothing_left : (field left rest : List ℕ) → length field ≡ length left → left ≡ field ++ rest → left ≡ field
nothing_left field left rest len e = sym (same_front field left rest [] len (sym e ∙ sym (append-nil left)))
