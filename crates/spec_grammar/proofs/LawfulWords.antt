-- Names, keys and literals that are taken from right tokens are such as a lawful tree has.
use Rattle.std.proofs.Common.{◌∙◌, ◌≡◌, Bool, true, false, not, ◌&&◌, List, [], ◌∷◌, refl, rules, sym, ap, subst, true≢false, if◌then◌else◌}
use Rattle.std.specs.Prelude.{ℕ, Option, Some, None}
use denote.Enum.Bare.{same_true}
use Rattle.snap_ast.specs.Children.{key_children}
use Rattle.snap_ast.specs.Words.{IsKey, IsName, IsNamed, IsNumber, IsText}
use Rattle.snap_ast.specs.declared.part.PropertyKey.{PropertyKey}
use Rattle.snap_ast.specs.declared.part.PropertyKey.TheVariants as key
use Rattle.spec_grammar.proofs.LawfulTokens.{AreRight, IsRight}
use Rattle.spec_grammar.specs.Parts.{is_lone_name, is_tail, is_update, key_at, key_by, named_at, postfix_at}
use Rattle.spec_grammar.specs.Operators.{tail_of}
use Rattle.spec_grammar.specs.Sign.{Row, is_word_at, is_word_kind, marks, next, same_sign, sees, sign_among, sign_at, sign_of, text_at, words}
use Rattle.spec_grammar.specs.contracts.sign.Sign.{the_type}
use Rattle.spec_grammar.specs.declared.sign.Sign.{Sign}
use Rattle.spec_grammar.specs.declared.sign.Sign.TheVariants as s
use Rattle.spec_tokens.specs.Number.{number_value}
use Rattle.spec_tokens.specs.Shape.{IsWord}
use Rattle.spec_tokens.specs.Text.{text_units}
use Rattle.spec_tokens.specs.Tokens.{Lexeme}
use Rattle.spec_tokens.specs.declared.piece.TokenKind.{TokenKind}
use Rattle.spec_tokens.specs.declared.piece.TokenKind.TheVariants as kind

pub next_right : (input : List Lexeme) → AreRight input → AreRight (next input)
unfolding next
next_right [] right = right
next_right (token ∷ rest) right = record { each = right.each.1 }

-- ---- signs

-- many tokens have the sign
abbrev is_open : Sign → Bool
is_open s.Name = true
is_open s.Number = true
is_open s.Text = true
is_open sign = false

-- each sign is of one token
abbrev are_closed : List Row → Bool
are_closed [] = true
are_closed (row ∷ rows) = not (is_open row.1) && are_closed rows

closed_if : (test : Bool) (one other : Sign) → is_open one ≡ false → is_open other ≡ false → is_open (if test then one else other) ≡ false
closed_if true one other e d = e
closed_if false one other e d = d

not_left : (first second : Bool) → (not first && second) ≡ true → first ≡ false
not_left true second e = absurd cc
not_left false second e = refl

not_right : (first second : Bool) → (not first && second) ≡ true → second ≡ true
not_right true second e = absurd cc
not_right false second e = e

among_closed : (text : List ℕ) (rows : List Row) → are_closed rows ≡ true → is_open (sign_among text rows) ≡ false
among_closed text [] e = refl
among_closed text (row ∷ rows) e = closed_if _ row.1 (sign_among text rows) (not_left (is_open row.1) (are_closed rows) e) (among_closed text rows (not_right (is_open row.1) (are_closed rows) e))

apart : (sign : Sign) (other : Sign) → is_open other ≡ false → is_open sign ≡ true → other ≡ sign → ⊥
apart sign other closed open_sign e = absurd (true≢false (sym open_sign ∙ sym (ap is_open e) ∙ closed))

name_right : (kind : TokenKind) (text : List ℕ) → IsRight kind text → sign_of kind text ≡ s.Name → IsName text
unfolding sign_of
name_right kind.Name text right e = right
name_right kind.Word text right e = absurd (apart s.Name (sign_among text words) (among_closed text words refl) refl e)
name_right kind.Number text right e = absurd cc
name_right kind.Text text right e = absurd cc
name_right kind.Mark text right e = absurd (apart s.Name (sign_among text marks) (among_closed text marks refl) refl e)

number_right : (kind : TokenKind) (text : List ℕ) → IsRight kind text → sign_of kind text ≡ s.Number → IsNumber (number_value text)
unfolding sign_of
number_right kind.Name text right e = absurd cc
number_right kind.Word text right e = absurd (apart s.Number (sign_among text words) (among_closed text words refl) refl e)
number_right kind.Number text right e = right
number_right kind.Text text right e = absurd cc
number_right kind.Mark text right e = absurd (apart s.Number (sign_among text marks) (among_closed text marks refl) refl e)

text_right : (kind : TokenKind) (text : List ℕ) → IsRight kind text → sign_of kind text ≡ s.Text → IsText (text_units text)
unfolding sign_of
text_right kind.Name text right e = absurd cc
text_right kind.Word text right e = absurd (apart s.Text (sign_among text words) (among_closed text words refl) refl e)
text_right kind.Number text right e = absurd cc
text_right kind.Text text right e = right
text_right kind.Mark text right e = absurd (apart s.Text (sign_among text marks) (among_closed text marks refl) refl e)

word_right : (kind : TokenKind) (text : List ℕ) → IsRight kind text → is_word_kind kind ≡ true → IsWord text []
word_right kind.Name text right e = right.0
word_right kind.Word text right e = right
word_right kind.Number text right e = absurd cc
word_right kind.Text text right e = absurd cc
word_right kind.Mark text right e = absurd cc

pub seen_is : (sign : Sign) (input : List Lexeme) → sees sign input ≡ true → sign_at input ≡ sign
unfolding sees same_sign
seen_is sign input e = same_true the_type (search rules) (sign_at input) sign e

-- ---- single tokens

pub name_at_right : (input : List Lexeme) → AreRight input → sign_at input ≡ s.Name → IsNamed (named_at input)
unfolding named_at text_at sign_at
name_at_right [] right e = absurd cc
name_at_right (token ∷ rest) right e = name_right token.kind token.text right.each.0 e

pub named_right : (input : List Lexeme) → AreRight input → sees s.Name input ≡ true → IsNamed (named_at input)
named_right input right e = name_at_right input right (seen_is s.Name input e)

pub number_at_right : (input : List Lexeme) → AreRight input → sign_at input ≡ s.Number → IsNumber (number_value (text_at input))
unfolding text_at sign_at
number_at_right [] right e = absurd cc
number_at_right (token ∷ rest) right e = number_right token.kind token.text right.each.0 e

pub text_at_right : (input : List Lexeme) → AreRight input → sign_at input ≡ s.Text → IsText (text_units (text_at input))
unfolding text_at sign_at
text_at_right [] right e = absurd cc
text_at_right (token ∷ rest) right e = text_right token.kind token.text right.each.0 e

pub word_at_right : (input : List Lexeme) → AreRight input → is_word_at input ≡ true → IsWord (text_at input) []
unfolding text_at is_word_at
word_at_right [] right e = absurd cc
word_at_right (token ∷ rest) right e = word_right token.kind token.text right.each.0 e

and_left : (first second : Bool) → (first && second) ≡ true → first ≡ true
and_left true second e = refl
and_left false second e = e

-- a name that is a whole Unary is one
pub lone_name_right : (input : List Lexeme) → AreRight input → is_lone_name input ≡ true → IsNamed (named_at input)
unfolding is_lone_name
lone_name_right input right e =
    let tail = not (is_tail (tail_of true (sign_at (next input)))) in
    named_right input right (and_left (sees s.Name input) tail (and_left (sees s.Name input && tail) (not (is_update (postfix_at (next input)))) e))

-- ---- keys

-- a key that is no node
pub record IsPlainKey (key : PropertyKey) : Type 0 where
  pub is : IsKey key
  pub none : key_children key ≡ []

abbrev IsKeyFound : Option PropertyKey → Type 0
IsKeyFound None = Unit {0}
IsKeyFound (Some key) = IsPlainKey key

key_if : (test : Bool) (found : PropertyKey) → (test ≡ true → IsPlainKey found) → IsKeyFound (if test then Some found else None)
key_if true found is = is refl
key_if false found is = tt

word_key : (input : List Lexeme) → AreRight input → IsKeyFound (if is_word_at input then Some (key.Word (text_at input)) else None)
word_key input right = key_if (is_word_at input) (key.Word (text_at input)) (λ e. record { is = word_at_right input right e; none = refl })

key_by_right : (sign : Sign) (input : List Lexeme) → AreRight input → sign_at input ≡ sign → IsKeyFound (key_by sign input)
key_by_right s.Text input right e = record { is = text_at_right input right e; none = refl }
key_by_right s.Number input right e = record { is = number_at_right input right e; none = refl }
key_by_right sign input right e = word_key input right

pub key_right : (input : List Lexeme) (found : PropertyKey) → AreRight input → key_at input ≡ Some found → IsPlainKey found
unfolding key_at
key_right input found right e = subst IsKeyFound e (key_by_right (sign_at input) input right refl)
