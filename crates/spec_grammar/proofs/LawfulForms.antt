-- What a form keeps where its children get the numbers of a table: its children's classes, its rank and its words.
use Rattle.std.proofs.Common.{◌∙◌, ◌≡◌, ℕ, ◌+◌, List, [], ◌∷◌, ◌++◌, map, refl, sym, ap}
use Rattle.std.specs.Prelude.{Option, Some, None}
use Rattle.snap_ast.specs.Children.{Class, AnyExpression, Block, Child, binding_children, block, children, const_children, expression, one, optional, property_children}
use Rattle.snap_ast.specs.Lawful.{HasWords, rank}
use Rattle.snap_ast.specs.Words.{Each, IsConstBinding, IsKey, IsNamed, IsSome}
use Rattle.snap_ast.specs.declared.form.Form.{Form}
use Rattle.snap_ast.specs.declared.form.Form.TheVariants as f
use Rattle.snap_ast.specs.declared.part.Binding.{Binding}
use Rattle.snap_ast.specs.declared.part.ConstBinding.{ConstBinding}
use Rattle.snap_ast.specs.declared.part.ConstBinding.TheVariants.{One, Pattern}
use Rattle.snap_ast.specs.declared.part.Property.{Property}
use Rattle.snap_ast.specs.declared.part.PropertyKey.{PropertyKey}
use Rattle.snap_ast.specs.declared.part.PropertyKey.TheVariants.{Computed}
use Rattle.spec_grammar.specs.Numbered as numbered

-- children whose numbers are counted from a node, with the numbers that they have in the table of that node
abbrev pub shift : ℕ → List Child → List Child
shift behind [] = []
shift behind (child ∷ rest) = record { class = child.class; number = behind + child.number } ∷ shift behind rest

pub shift_append : (behind : ℕ) (front rest : List Child) → shift behind (front ++ rest) ≡ shift behind front ++ shift behind rest
shift_append behind [] rest = refl
shift_append behind (child ∷ front) rest = ap (λ list. record { class = child.class; number = behind + child.number } ∷ list) (shift_append behind front rest)

-- ---- children

optional_shift : (behind : ℕ) (value : Option ℕ) (rest shifted : List Child) → shifted ≡ shift behind rest → optional expression (numbered.optional behind value) ++ shifted ≡ shift behind (optional expression value ++ rest)
optional_shift behind None rest shifted e = e
optional_shift behind (Some value) rest shifted e = ap (λ list. expression (behind + value) ∷ list) e

last_shift : (class : Class) (behind : ℕ) (value : Option ℕ) → optional (one class) (numbered.optional behind value) ≡ shift behind (optional (one class) value)
last_shift class behind None = refl
last_shift class behind (Some value) = refl

numbers_shift : (class : Class) (behind : ℕ) (items : List ℕ) → map (one class) (numbered.numbers behind items) ≡ shift behind (map (one class) items)
numbers_shift class behind [] = refl
numbers_shift class behind (item ∷ items) = ap (λ list. one class (behind + item) ∷ list) (numbers_shift class behind items)

bindings_shift : (behind : ℕ) (bindings : List Binding) → binding_children (numbered.bindings behind bindings) ≡ shift behind (binding_children bindings)
bindings_shift behind [] = refl
bindings_shift behind (binding ∷ bindings) = optional_shift behind binding.value (binding_children bindings) (binding_children (numbered.bindings behind bindings)) (bindings_shift behind bindings)

consts_shift : (behind : ℕ) (bindings : List ConstBinding) → const_children (numbered.const_bindings behind bindings) ≡ shift behind (const_children bindings)
consts_shift behind [] = refl
consts_shift behind (One named value ∷ bindings) = ap (λ list. expression (behind + value) ∷ list) (consts_shift behind bindings)
consts_shift behind (Pattern names value ∷ bindings) = ap (λ list. expression (behind + value) ∷ list) (consts_shift behind bindings)

property_shift : (behind : ℕ) (key : PropertyKey) (value : ℕ) (properties : List Property) → property_children (numbered.properties behind properties) ≡ shift behind (property_children properties) → property_children (numbered.properties behind (record { key = key; value = value } ∷ properties)) ≡ shift behind (property_children (record { key = key; value = value } ∷ properties))
property_shift behind (Computed number) value properties e = ap (λ list. expression (behind + number) ∷ expression (behind + value) ∷ list) e
property_shift behind key value properties e = ap (λ list. expression (behind + value) ∷ list) e

properties_shift : (behind : ℕ) (properties : List Property) → property_children (numbered.properties behind properties) ≡ shift behind (property_children properties)
properties_shift behind [] = refl
properties_shift behind (property ∷ properties) = property_shift behind property.key property.value properties (properties_shift behind properties)

both_shift : (behind : ℕ) (front rest : List Child) {shifted more : List Child} → shifted ≡ shift behind front → more ≡ shift behind rest → shifted ++ more ≡ shift behind (front ++ rest)
both_shift behind front rest {shifted} {more} e d = ap (λ list. list ++ more) e ∙ ap (λ list. shift behind front ++ list) d ∙ sym (shift_append behind front rest)

pub children_form : (behind : ℕ) (form : Form) → children (numbered.form behind form) ≡ shift behind (children form)
children_form behind (f.Let bindings) = bindings_shift behind bindings
children_form behind (f.Const bindings) = consts_shift behind bindings
children_form behind (f.Function name parameters body) = numbers_shift _ behind body
children_form behind (f.Block body) = numbers_shift _ behind body
children_form behind (f.For start test update body) =
    both_shift behind _ _ (both_shift behind _ _ (both_shift behind _ _ (last_shift AnyExpression behind start) (last_shift AnyExpression behind test)) (last_shift AnyExpression behind update)) refl
children_form behind (f.ForLet bindings test update body) =
    both_shift behind _ _ (both_shift behind _ _ (both_shift behind _ _ (bindings_shift behind bindings) (last_shift AnyExpression behind test)) (last_shift AnyExpression behind update)) refl
children_form behind (f.Return value) = last_shift AnyExpression behind value
children_form behind (f.TryCatch tried handler finalizer) = ap (λ list. block (behind + tried) ∷ block (behind + handler) ∷ list) (last_shift Block behind finalizer)
children_form behind (f.TryCatchName tried name handler finalizer) = ap (λ list. block (behind + tried) ∷ block (behind + handler) ∷ list) (last_shift Block behind finalizer)
children_form behind (f.ArrowBody parameters body) = numbers_shift _ behind body
children_form behind (f.Call callee arguments) = ap (λ list. expression (behind + callee) ∷ list) (numbers_shift AnyExpression behind arguments)
children_form behind (f.New callee arguments) = ap (λ list. expression (behind + callee) ∷ list) (numbers_shift AnyExpression behind arguments)
children_form behind (f.Array elements) = numbers_shift _ behind elements
children_form behind (f.Object properties) = properties_shift behind properties
children_form behind (f.FunctionValue parameters body) = numbers_shift _ behind body
children_form behind form = refl

-- ---- rank

pub rank_form : (behind : ℕ) (form : Form) → rank (numbered.form behind form) ≡ rank form
rank_form behind f.Empty = refl
rank_form behind form = refl

-- ---- words

bindings_named : (behind : ℕ) (bindings : List Binding) → Each (λ binding. IsNamed binding.name) bindings → Each (λ binding. IsNamed binding.name) (numbered.bindings behind bindings)
bindings_named behind [] each = tt
bindings_named behind (binding ∷ bindings) each = (each.0, bindings_named behind bindings each.1)

bindings_some : (behind : ℕ) (bindings : List Binding) → IsSome bindings → IsSome (numbered.bindings behind bindings)
bindings_some behind [] some = some
bindings_some behind (binding ∷ bindings) some = tt

consts_named : (behind : ℕ) (bindings : List ConstBinding) → Each IsConstBinding bindings → Each IsConstBinding (numbered.const_bindings behind bindings)
consts_named behind [] each = tt
consts_named behind (One named value ∷ bindings) each = (each.0, consts_named behind bindings each.1)
consts_named behind (Pattern names value ∷ bindings) each = (each.0, consts_named behind bindings each.1)

consts_some : (behind : ℕ) (bindings : List ConstBinding) → IsSome bindings → IsSome (numbered.const_bindings behind bindings)
consts_some behind [] some = some
consts_some behind (binding ∷ bindings) some = tt

key_is : (behind : ℕ) (key : PropertyKey) → IsKey key → IsKey (numbered.key behind key)
key_is behind (Computed number) is = tt
key_is behind key is = is

properties_keyed : (behind : ℕ) (properties : List Property) → Each (λ property. IsKey property.key) properties → Each (λ property. IsKey property.key) (numbered.properties behind properties)
properties_keyed behind [] each = tt
properties_keyed behind (property ∷ properties) each = (key_is behind property.key each.0, properties_keyed behind properties each.1)

pub words_form : (behind : ℕ) (form : Form) → HasWords form → HasWords (numbered.form behind form)
words_form behind (f.Let bindings) words = (bindings_named behind bindings words.0, bindings_some behind bindings words.1)
words_form behind (f.Const bindings) words = (consts_named behind bindings words.0, consts_some behind bindings words.1)
words_form behind (f.ForLet bindings test update body) words = (bindings_named behind bindings words.0, bindings_some behind bindings words.1)
words_form behind (f.Object properties) words = properties_keyed behind properties words
words_form behind form words = words
