-- The intrinsics are a graph of whatever scripts: none is a function of a script or a scope.
use Rattle.std.proofs.Common.{◌≡◌, true, false, List, get_or, Option, refl, sym, ap, subst, ◌∙◌, ⊎_elim}
use Rattle.std.specs.Option.{option_map_or}
use Rattle.std.proofs.lemmas.Bool.{false≢true}
use Rattle.std.proofs.lemmas.Option.{slice_get_cases}
use Rattle.snap_ast.specs.declared.tree.Tree.{Tree}
use Rattle.snap_graph.specs.declared.kind.Kind.{Kind}
use Rattle.snap_graph.specs.declared.kind.Kind.TheVariants as kind
use Rattle.snap_graph.specs.declared.node.Node.{Node}
use Rattle.snap_graph.specs.declared.value.Value.{Value}
use Rattle.snap_graph.specs.declared.value.Value.TheVariants.{Undefined, Null, Bool as Truth, Int, Text, Node as At, Empty}
use Rattle.snap_graph.specs.Intrinsics.{intrinsics}
use Rattle.snap_graph.specs.Lawful.{is_scope}
use Rattle.snap_graph.proofs.Fitting.{fixed_intrinsics, is_fixed, lawful_intrinsics}
use Rattle.spec_scopes.specs.Valid.{IsValid}
use Rattle.laws_valid.proofs.Keeping.{IsNoScope}

fixed_unscoped : (own : Kind) → is_fixed own ≡ true → is_scope own ≡ false
fixed_unscoped kind.Plain e = refl
fixed_unscoped kind.Array e = refl
fixed_unscoped (kind.Function script tree) e = refl
fixed_unscoped (kind.Native native) e = refl
fixed_unscoped (kind.Scope scope) e = absurd (false≢true e)
fixed_unscoped kind.Error e = refl
fixed_unscoped kind.Map e = refl
fixed_unscoped kind.Set e = refl
fixed_unscoped (kind.Resource number closed) e = refl

no_scope : (value : Value) → IsNoScope intrinsics value
no_scope Undefined = refl
no_scope Null = refl
no_scope (Truth b) = refl
no_scope (Int z) = refl
no_scope (Text text) = refl
no_scope (At number) =
    let is_it = λ (it : Option Node). option_map_or (λ (node : Node). is_scope node.kind) it false in
    ⊎_elim
    (λ found. ap is_it found.2 ∙ fixed_unscoped found.0.kind (subst (λ (node : Node). is_fixed node.kind ≡ true) found.3 (fixed_intrinsics number found.0 found.1)))
    (λ none. ap is_it none.1)
    (slice_get_cases intrinsics number).1
no_scope Empty = refl

pub intrinsics_valid : (scripts : List Tree) → IsValid intrinsics scripts
intrinsics_valid scripts = record {
  lawful = lawful_intrinsics;
  each = λ k d within. record {
    functions = λ script tree is. absurd (false≢true (sym (ap is_fixed is) ∙ fixed_intrinsics k d within));
    elements = λ other i e inside. no_scope (get_or (get_or intrinsics k d).elements i e);
    properties = λ i e inside. no_scope (get_or (get_or intrinsics k d).properties i e).value;
  };
}
