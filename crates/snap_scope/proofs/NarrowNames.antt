-- The names of a lawful tree: each unit fits a byte.
use Rattle.std.proofs.Common.{◌≡◌, ℕ, ◌<◌, true, List, [], ◌∷◌, ◌++◌, map, length, get_or, refl, sym, subst, ap, ◌∙◌, arith}
use Rattle.std.specs.Prelude.{slice_get, Option, None, Some}
use Rattle.std.specs.Option.{option_map_or}
use Rattle.std.proofs.lemmas.Bool.Decides.{nat_tests}
use Rattle.std.proofs.lemmas.List.{get_or-map, length-map}
use Rattle.std.proofs.lemmas.List.Elements.{All-append, All-cons, All-nil}
use Rattle.spec_tokens.specs.Byte.{is_digit, is_part, is_start}
use Rattle.spec_tokens.specs.Shape.{AllAre, IsWord}
use Rattle.snap_ast.proofs.Parents.{node_is_lawful}
use Rattle.snap_ast.specs.Lawful.{HasWords, Lawful}
use Rattle.snap_ast.specs.Words.{Each, IsConstBinding, IsName, IsNamed}
use Rattle.snap_ast.specs.declared.form.Form.{Form}
use Rattle.snap_ast.specs.declared.form.Form.TheVariants as f
use Rattle.snap_ast.specs.declared.part.Binding.{Binding}
use Rattle.snap_ast.specs.declared.part.ConstBinding.{ConstBinding}
use Rattle.snap_ast.specs.declared.part.ConstBinding.TheVariants.{One, Pattern}
use Rattle.snap_ast.specs.declared.part.Named.{Named}
use Rattle.snap_ast.specs.declared.tree.Tree.{Tree}
use Rattle.snap_ast.specs.declared.tree.TreeNode.{TreeNode}
use Rattle.snap_scope.specs.Names.{AreNarrow, HaveWords, IsNarrow, all_declared, declared_of}
use Rattle.snap_scope.specs.declared.names.Name.{Name}
use Rattle.spec_scopes.specs.Names.{Declared, binding_names, const_names, constant, declared, declares, form_at, let_names, variable}
use Rattle.spec_scopes.specs.Scopes.{names_apart, own_names, script_names}

-- ---- a word

start_narrow : (b : ℕ) → is_start b ≡ true → b < 256
unfolding is_start
start_narrow b e = grind (arith, nat_tests)

part_narrow : (b : ℕ) → is_part b ≡ true → b < 256
unfolding is_part is_start is_digit
part_narrow b e = grind (arith, nat_tests)

parts_narrow : (bytes : List ℕ) → AllAre is_part bytes → IsNarrow bytes
parts_narrow [] are = All-nil (λ unit. unit < 256)
parts_narrow (b ∷ bytes) are = All-cons (λ unit. unit < 256) b bytes (part_narrow b are.0) (parts_narrow bytes are.1)

word_narrow : (text rest : List ℕ) → IsWord text rest → IsNarrow text
word_narrow [] rest word = absurd word
word_narrow (b ∷ bytes) rest word = All-cons (λ unit. unit < 256) b bytes (start_narrow b word.0) (parts_narrow bytes word.1)

pub name_narrow : (text : List ℕ) → IsName text → IsNarrow text
name_narrow text is = word_narrow text [] is.0

named_narrow : (named : Named) → IsNamed named → IsNarrow named.name
named_narrow named is = name_narrow named.name is

-- ---- lists of names

abbrev HasNarrow : Declared → Type 0
HasNarrow declared = IsNarrow declared.named.name

no_name : AreNarrow []
no_name = All-nil HasNarrow

one_more : (first : Declared) (names : List Declared) → IsNamed first.named → AreNarrow names → AreNarrow (first ∷ names)
one_more first names is rest = All-cons HasNarrow first names (named_narrow first.named is) rest

variables_narrow : (names : List Named) → Each IsNamed names → AreNarrow (map variable names)
variables_narrow [] are = no_name
variables_narrow (name ∷ names) are = one_more (variable name) (map variable names) are.0 (variables_narrow names are.1)

constants_narrow : (names : List Named) → Each IsNamed names → AreNarrow (map constant names)
constants_narrow [] are = no_name
constants_narrow (name ∷ names) are = one_more (constant name) (map constant names) are.0 (constants_narrow names are.1)

lets_narrow : (bindings : List Binding) → Each (λ binding. IsNamed binding.name) bindings → AreNarrow (let_names bindings)
lets_narrow [] are = no_name
lets_narrow (binding ∷ bindings) are = one_more (variable binding.name) (let_names bindings) are.0 (lets_narrow bindings are.1)

binding_narrow : (binding : ConstBinding) → IsConstBinding binding → AreNarrow (map constant (binding_names binding))
binding_narrow (One named value) is = one_more (constant named) [] is no_name
binding_narrow (Pattern names value) is = constants_narrow names is.0

consts_narrow : (bindings : List ConstBinding) → Each IsConstBinding bindings → AreNarrow (const_names bindings)
consts_narrow [] are = no_name
consts_narrow (binding ∷ bindings) are =
    All-append HasNarrow (map constant (binding_names binding)) (const_names bindings) (binding_narrow binding are.0) (consts_narrow bindings are.1)

pub declares_narrow : (form : Form) → HasWords form → AreNarrow (declares form)
declares_narrow (f.Let bindings) words = lets_narrow bindings words.0
declares_narrow (f.Const bindings) words = consts_narrow bindings words.0
declares_narrow (f.Function name parameters body) words = one_more (variable name) [] words.0 no_name
declares_narrow form words = no_name

-- ---- the names of a node

words_at : (nodes : List TreeNode) → HaveWords nodes → (number : ℕ) → HasWords (form_at nodes number)
words_at nodes all number = by (slice_get nodes number) refl
  where
    by : (found : Option TreeNode) → slice_get nodes number ≡ found → HasWords (option_map_or (λ node. node.form) found f.Empty)
    by None e = tt
    by (Some node) e = all number node e

module _ (nodes : List TreeNode) (all : HaveWords nodes) where
  declared_narrow : (body : List ℕ) → AreNarrow (declared nodes body)
  declared_narrow [] = no_name
  declared_narrow (number ∷ rest) =
      All-append HasNarrow (declares (form_at nodes number)) (declared nodes rest) (declares_narrow (form_at nodes number) (words_at nodes all number)) (declared_narrow rest)

  function_narrow : (parameters : List Named) (body : List ℕ) → Each IsNamed parameters → AreNarrow (map variable parameters ++ declared nodes body)
  function_narrow parameters body are = All-append HasNarrow (map variable parameters) (declared nodes body) (variables_narrow parameters are) (declared_narrow body)

  pub own_narrow : (form : Form) → HasWords form → AreNarrow (own_names nodes form).names
  own_narrow (f.Function name parameters body) words = function_narrow parameters body words.1
  own_narrow (f.FunctionValue parameters body) words = function_narrow parameters body words
  own_narrow (f.ArrowBody parameters body) words = function_narrow parameters body words
  own_narrow (f.ArrowValue parameters value) words = variables_narrow parameters words
  own_narrow (f.Block body) words = declared_narrow body
  own_narrow (f.ForLet bindings test update body) words = lets_narrow bindings words.0
  own_narrow (f.ForOf is_constant name values body) words = one_more (record { named = name; is_constant = is_constant }) [] words no_name
  own_narrow (f.TryCatchName tried name handler finalizer) words = one_more (variable name) [] words no_name
  own_narrow form words = no_name

  pub apart_narrow : (form : Form) → HasWords form → AreNarrow (names_apart nodes form)
  apart_narrow (f.TryCatchName tried name handler finalizer) words =
      one_more (variable name) (own_names nodes (form_at nodes handler)).names words (own_narrow (form_at nodes handler) (words_at nodes all handler))
  apart_narrow form words = own_narrow form words

-- ---- the names of a tree

pub have_words : (tree : Tree) → Lawful tree → HaveWords tree.nodes
have_words tree lawful number node at = (node_is_lawful tree number node lawful at).0

pub script_narrow : (tree : Tree) → Lawful tree → AreNarrow (script_names tree).names
script_narrow tree lawful = declared_narrow tree.nodes (have_words tree lawful) tree.top

-- one of some names
pub item_narrow : (names : List Name) (i : ℕ) (name : Name) → i < length names → name ≡ get_or names i name → AreNarrow (all_declared names) → IsNarrow name.named.now.name
item_narrow names i name less is all =
    let here : get_or (all_declared names) i (declared_of name) ≡ declared_of name = get_or-map declared_of names i name (declared_of name) less ∙ ap declared_of (sym is) in
    subst HasNarrow here (all i (declared_of name) (omega (arith, length-map names declared_of, less)))
