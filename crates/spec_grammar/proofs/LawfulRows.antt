-- Bindings and properties, one after another: their names and keys, and the phrases in them as children.
use Rattle.std.proofs.Common.{◌∙◌, ◌≡◌, List, [], ◌∷◌, ◌++◌, append-nil, append_assoc, refl, sym, ap, subst}
use Rattle.std.specs.Prelude.{Some, None}
use Rattle.snap_ast.specs.Children.{AnyExpression, Child, binding_children, const_child, const_children, expression, key_children, optional, property_children}
use Rattle.snap_ast.specs.Words.{Each, IsConstBinding, IsKey, IsNamed, IsSome}
use Rattle.snap_ast.specs.declared.part.Binding.{Binding}
use Rattle.snap_ast.specs.declared.part.ConstBinding.{ConstBinding}
use Rattle.snap_ast.specs.declared.part.ConstBinding.TheVariants.{One, Pattern}
use Rattle.snap_ast.specs.declared.part.Named.{Named}
use Rattle.snap_ast.specs.declared.part.Property.{Property}
use Rattle.snap_ast.specs.declared.part.PropertyKey.{PropertyKey}
use Rattle.snap_ast.specs.declared.part.PropertyKey.TheVariants.{Computed}
use Rattle.spec_grammar.proofs.LawfulPieces.{IsA, IsBelow, below_more, below_none, node_is}
use Rattle.spec_grammar.proofs.LawfulHeads.{each_more}
use Rattle.spec_grammar.proofs.LawfulWords.{IsPlainKey}
use Rattle.spec_grammar.specs.Nodes.{with_computed, with_constant, with_name, with_pattern, with_property, with_shorthand, with_value}
use Rattle.spec_grammar.specs.Phrase.{Below, Phrase, Row, nothing, number, row_on, ◌▸◌}

below_as : {list other : List Child} {below : Below} → list ≡ other → IsBelow list below → IsBelow other below
below_as {list} {other} {below} e is = subst (λ list. IsBelow list below) e is

-- ---- bindings of a let

pub record AreBindings (row : Row Binding) : Type 0 where
  pub below : IsBelow (binding_children row.items) row.below
  pub named : Each (λ binding. IsNamed binding.name) row.items

pub no_bindings : AreBindings (row_on nothing)
no_bindings = record { below = below_none; named = tt }

bindings_more : (items : List Binding) (binding : Binding) → binding_children (items ++ binding ∷ []) ≡ binding_children items ++ optional expression binding.value
bindings_more [] binding = append-nil (optional expression binding.value)
bindings_more (first ∷ items) binding =
    ap (λ list. optional expression first.value ++ list) (bindings_more items binding) ∙ sym (append_assoc (optional expression first.value) (binding_children items) (optional expression binding.value))

pub name_more : {row : Row Binding} (named : Named) → AreBindings row → IsNamed named → AreBindings (with_name row named)
name_more {row} named are is =
    let binding : Binding = record { name = named; value = None } in
    record {
      below = below_as (sym (append-nil (binding_children row.items)) ∙ sym (bindings_more row.items binding)) are.below;
      named = each_more (λ binding. IsNamed binding.name) row.items binding are.named is;
    }

pub value_more : {row : Row Binding} (named : Named) {value : Phrase} → AreBindings row → IsNamed named → IsA AnyExpression value → AreBindings (with_value row named value)
value_more {row} named {value} are is is_a =
    let binding : Binding = record { name = named; value = Some (number row.below) } in
    record {
      below = below_as (sym (bindings_more row.items binding)) (below_more are.below is_a);
      named = each_more (λ binding. IsNamed binding.name) row.items binding are.named is;
    }

-- ---- bindings of a const

pub record AreConsts (row : Row ConstBinding) : Type 0 where
  pub below : IsBelow (const_children row.items) row.below
  pub named : Each IsConstBinding row.items

pub no_consts : AreConsts (row_on nothing)
no_consts = record { below = below_none; named = tt }

consts_more : (items : List ConstBinding) (binding : ConstBinding) → const_children (items ++ binding ∷ []) ≡ const_children items ++ const_child binding ∷ []
consts_more [] binding = refl
consts_more (first ∷ items) binding = ap (λ list. const_child first ∷ list) (consts_more items binding)

pub constant_more : {row : Row ConstBinding} (named : Named) {value : Phrase} → AreConsts row → IsNamed named → IsA AnyExpression value → AreConsts (with_constant row named value)
constant_more {row} named {value} are is is_a =
    let binding = One named (number row.below) in
    record { below = below_as (sym (consts_more row.items binding)) (below_more are.below is_a); named = each_more IsConstBinding row.items binding are.named is }

pub pattern_more : {row : Row ConstBinding} (names : List Named) {value : Phrase} → AreConsts row → Each IsNamed names → IsSome names → IsA AnyExpression value → AreConsts (with_pattern row names value)
pattern_more {row} names {value} are each some is_a =
    let binding = Pattern names (number row.below) in
    record { below = below_as (sym (consts_more row.items binding)) (below_more are.below is_a); named = each_more IsConstBinding row.items binding are.named (each, some) }

-- ---- properties

pub record AreProperties (row : Row Property) : Type 0 where
  pub below : IsBelow (property_children row.items) row.below
  pub keyed : Each (λ property. IsKey property.key) row.items

pub no_properties : AreProperties (row_on nothing)
no_properties = record { below = below_none; keyed = tt }

abbrev parts_of : Property → List Child
parts_of property = key_children property.key ++ expression property.value ∷ []

properties_more : (items : List Property) (property : Property) → property_children (items ++ property ∷ []) ≡ property_children items ++ parts_of property
properties_more [] property = refl
properties_more (first ∷ items) property =
    ap (λ list. key_children first.key ++ expression first.value ∷ list) (properties_more items property)
    ∙ sym (append_assoc (key_children first.key) (expression first.value ∷ property_children items) (parts_of property))

pub property_more : {row : Row Property} {key : PropertyKey} {value : Phrase} → AreProperties row → IsPlainKey key → IsA AnyExpression value → AreProperties (with_property row key value)
property_more {row} {key} {value} are plain is_a =
    let property : Property = record { key = key; value = number row.below } in
    let last : expression (number row.below) ∷ [] ≡ parts_of property = ap (λ list. list ++ expression (number row.below) ∷ []) (sym plain.none) in
    record {
      below = below_as (ap (λ list. property_children row.items ++ list) last ∙ sym (properties_more row.items property)) (below_more are.below is_a);
      keyed = each_more (λ property. IsKey property.key) row.items property are.keyed plain.is;
    }

pub shorthand_more : {row : Row Property} (named : Named) → AreProperties row → IsNamed named → AreProperties (with_shorthand row named)
shorthand_more named are is = property_more are (record { is = is.0; none = refl }) (node_is is below_none refl)

pub computed_more : {row : Row Property} {key value : Phrase} → AreProperties row → IsA AnyExpression key → IsA AnyExpression value → AreProperties (with_computed row key value)
computed_more {row} {key} {value} are is_key is_value =
    let both = row.below ▸ key in
    let property : Property = record { key = Computed (number row.below); value = number both } in
    record {
      below = below_as (append_assoc (property_children row.items) (expression (number row.below) ∷ []) (expression (number both) ∷ []) ∙ sym (properties_more row.items property)) (below_more (below_more are.below is_key) is_value);
      keyed = each_more (λ property. IsKey property.key) row.items property are.keyed tt;
    }
