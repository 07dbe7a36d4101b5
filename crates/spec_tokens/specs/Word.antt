-- Names and reserved words: ECMA-262, Names and Keywords.
use Rattle.std.specs.Prelude.{ℕ, Bool, List, [], ◌∷◌, ◌++◌, codes, if◌then◌else◌}
use Rattle.std.specs.List.{list_any}
use Rattle.std.specs.Str.{bytes_eq}
use Rattle.spec_tokens.specs.declared.piece.TokenKind.{TokenKind}
use Rattle.spec_tokens.specs.declared.piece.TokenKind.TheVariants.{Name, Word}

-- the words that are no names, in alphabetical groups
abbrev pub words_a_to_c : List (List ℕ)
words_a_to_c = codes "arguments" ∷ codes "await" ∷ codes "break" ∷ codes "case" ∷ codes "catch" ∷ codes "class" ∷ codes "const" ∷ codes "continue" ∷ []

abbrev pub words_d_to_ev : List (List ℕ)
words_d_to_ev = codes "debugger" ∷ codes "default" ∷ codes "delete" ∷ codes "do" ∷ codes "else" ∷ codes "enum" ∷ codes "eval" ∷ []

abbrev pub words_ex_to_if : List (List ℕ)
words_ex_to_if = codes "export" ∷ codes "extends" ∷ codes "false" ∷ codes "finally" ∷ codes "for" ∷ codes "function" ∷ codes "if" ∷ []

abbrev pub words_im_to_ne : List (List ℕ)
words_im_to_ne = codes "implements" ∷ codes "import" ∷ codes "in" ∷ codes "instanceof" ∷ codes "interface" ∷ codes "let" ∷ codes "new" ∷ []

abbrev pub words_nu_to_st : List (List ℕ)
words_nu_to_st = codes "null" ∷ codes "package" ∷ codes "private" ∷ codes "protected" ∷ codes "public" ∷ codes "return" ∷ codes "static" ∷ []

abbrev pub words_su_to_ty : List (List ℕ)
words_su_to_ty = codes "super" ∷ codes "switch" ∷ codes "this" ∷ codes "throw" ∷ codes "true" ∷ codes "try" ∷ codes "typeof" ∷ []

abbrev pub words_u_to_y : List (List ℕ)
words_u_to_y = codes "undefined" ∷ codes "var" ∷ codes "void" ∷ codes "while" ∷ codes "with" ∷ codes "yield" ∷ []

-- the words that are no names
abbrev pub reserved : List (List ℕ)
reserved = words_a_to_c ++ words_d_to_ev ++ words_ex_to_if ++ words_im_to_ne ++ words_nu_to_st ++ words_su_to_ty ++ words_u_to_y

-- the text is a reserved word
unfoldable pub is_reserved : List ℕ → Bool
is_reserved text = list_any (bytes_eq text) reserved

-- what a run of letters, digits, _ and $ is
unfoldable pub word_kind : List ℕ → TokenKind
word_kind text = if is_reserved text then Word else Name
