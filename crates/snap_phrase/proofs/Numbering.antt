-- The numbers of one part more.
use Rattle.std.proofs.Common.{suc, length, ◌∙◌, arith, add-zero, ◌≡◌, ℕ, ◌+◌, List, [], ◌∷◌, ◌++◌, refl, ap}
use Rattle.snap_ast.specs.declared.part.Binding.{Binding}
use Rattle.snap_ast.specs.declared.part.ConstBinding.{ConstBinding}
use Rattle.snap_ast.specs.declared.part.Property.{Property}
use Rattle.snap_ast.specs.declared.tree.TreeNode.{TreeNode}
use Rattle.spec_grammar.specs.Numbered as spec

pub one_number : (behind : ℕ) (list : List ℕ) (number : ℕ) → spec.numbers behind (list ++ number ∷ []) ≡ spec.numbers behind list ++ (behind + number) ∷ []
one_number behind [] number = refl
one_number behind (first ∷ rest) number = ap (λ l. (behind + first) ∷ l) (one_number behind rest number)

pub one_binding : (behind : ℕ) (list : List Binding) (part : Binding) → spec.bindings behind (list ++ part ∷ []) ≡ spec.bindings behind list ++ record { name = part.name; value = spec.optional behind part.value } ∷ []
one_binding behind [] part = refl
one_binding behind (first ∷ rest) part = ap (λ l. record { name = first.name; value = spec.optional behind first.value } ∷ l) (one_binding behind rest part)

pub one_constant : (behind : ℕ) (list : List ConstBinding) (part : ConstBinding) → spec.const_bindings behind (list ++ part ∷ []) ≡ spec.const_bindings behind list ++ spec.const_binding behind part ∷ []
one_constant behind [] part = refl
one_constant behind (first ∷ rest) part = ap (λ l. spec.const_binding behind first ∷ l) (one_constant behind rest part)

pub one_property : (behind : ℕ) (list : List Property) (part : Property) → spec.properties behind (list ++ part ∷ []) ≡ spec.properties behind list ++ record { key = spec.key behind part.key; value = behind + part.value } ∷ []
one_property behind [] part = refl
one_property behind (first ∷ rest) part = ap (λ l. record { key = spec.key behind first.key; value = behind + first.value } ∷ l) (one_property behind rest part)

pub one_node : (at : ℕ) (list : List TreeNode) (node : TreeNode) → spec.numbered at (list ++ node ∷ []) ≡ spec.numbered at list ++ record { form = spec.form (suc (at + length list)) node.form; at = node.at } ∷ []
one_node at [] node = rw add-zero refl
one_node at (first ∷ rest) node =
    let place : suc at + length rest ≡ at + suc (length rest) = omega arith in
    ap (λ l. record { form = spec.form (suc at) first.form; at = first.at } ∷ l) (one_node (suc at) rest node ∙ ap (λ n. spec.numbered (suc at) rest ++ record { form = spec.form (suc n) node.form; at = node.at } ∷ []) place)
