-- The reserved words by their groups.
use Rattle.std.proofs.Common.{◌≡◌, ℕ, Bool, ◌||◌, List, ◌++◌}
use Rattle.std.specs.List.{list_any}
use Rattle.std.specs.Str.{bytes_eq}
use Rattle.std.proofs.lemmas.List.Folds.{list_any-append}
use Rattle.spec_tokens.specs.Word.{is_reserved, words_a_to_c, words_d_to_ev, words_ex_to_if, words_im_to_ne, words_nu_to_st, words_su_to_ty, words_u_to_y}

any_of_seven : (p : List ℕ → Bool) (a b c d e f g : List (List ℕ)) → list_any p (a ++ b ++ c ++ d ++ e ++ f ++ g) ≡ (list_any p a || list_any p b || list_any p c || list_any p d || list_any p e || list_any p f || list_any p g)
any_of_seven p a b c d e f g = simp list_any-append

-- a reserved word is in one of the groups
pub groups_of_reserved : (text : List ℕ) → is_reserved text ≡ (list_any (bytes_eq text) words_a_to_c || list_any (bytes_eq text) words_d_to_ev || list_any (bytes_eq text) words_ex_to_if || list_any (bytes_eq text) words_im_to_ne || list_any (bytes_eq text) words_nu_to_st || list_any (bytes_eq text) words_su_to_ty || list_any (bytes_eq text) words_u_to_y)
unfolding is_reserved
groups_of_reserved text = any_of_seven (bytes_eq text) words_a_to_c words_d_to_ev words_ex_to_if words_im_to_ne words_nu_to_st words_su_to_ty words_u_to_y
