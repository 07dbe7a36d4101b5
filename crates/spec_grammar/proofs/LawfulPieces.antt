-- Phrases as pieces of a table: a phrase that stands there spans its nodes as a lawful tree wants.
use Rattle.std.proofs.Common.{◌∙◌, ◌≡◌, ℕ, zero, suc, ◌+◌, ◌≤◌, true, List, [], ◌∷◌, ◌++◌, length, map, slice_get, refl, sym, ap, subst, append_assoc, arith, length-append}
use Rattle.std.specs.Prelude.{Some}
use Rattle.snap_ast.specs.Children.{Class, Child, children, one}
use Rattle.snap_ast.specs.Lawful.{Declaration, Follow, HasWords, Rank, Spans, may_be, rank}
use Rattle.snap_ast.specs.declared.form.Form.{Form}
use Rattle.snap_ast.specs.declared.tree.TreeNode.{TreeNode}
use Rattle.spec_grammar.proofs.LawfulForms.{children_form, rank_form, shift, shift_append, words_form}
use Rattle.spec_grammar.specs.Numbered as numbered
use Rattle.spec_grammar.specs.Phrase.{Phrase, Below, nothing, ◌▸◌, under, number, above, Row, with_child}

-- nodes of a phrase stand in a table from a number on, with the numbers that they have there
abbrev pub Stands : List TreeNode → ℕ → List TreeNode → Type 0
Stands nodes at [] = Unit {0}
Stands nodes at (node ∷ part) = (slice_get nodes at ≡ Some (record { form = numbered.form (suc at) node.form; at = node.at })) × Stands nodes (suc at) part

stands_first : (nodes : List TreeNode) (at : ℕ) (part rest : List TreeNode) → Stands nodes at (part ++ rest) → Stands nodes at part
stands_first nodes at [] rest stands = tt
stands_first nodes at (node ∷ part) rest stands = (stands.0, stands_first nodes (suc at) part rest stands.1)

stands_rest : (nodes : List TreeNode) (at : ℕ) (part rest : List TreeNode) → Stands nodes at (part ++ rest) → Stands nodes (at + length part) rest
stands_rest nodes at [] rest stands = let e : at ≡ at + 0 = omega arith in subst (λ n. Stands nodes n rest) e stands
stands_rest nodes at (node ∷ part) rest stands =
    let e : suc at + length part ≡ at + suc (length part) = omega arith in
    subst (λ n. Stands nodes n rest) e (stands_rest nodes (suc at) part rest stands.1)

-- the rank of the first node
abbrev pub rank_at : List TreeNode → Rank
rank_at [] = Declaration
rank_at (node ∷ nodes) = rank node.form

-- the words of the first node are such as a source has
abbrev pub words_at : List TreeNode → Type 0
words_at [] = Unit {0}
words_at (node ∷ nodes) = HasWords node.form

-- what spans the nodes of a phrase wherever they stand
pub record IsPiece (phrase : Phrase) : Type 0 where
  pub span : (nodes : List TreeNode) (at levels : ℕ) (class : Class) → Stands nodes at phrase.nodes → phrase.height ≤ levels → may_be class (rank_at phrase.nodes) ≡ true → Spans nodes levels (one class at) (at + length phrase.nodes)
  pub words : words_at phrase.nodes

-- a piece of a class
pub record IsA (class : Class) (phrase : Phrase) : Type 0 where
  pub piece : IsPiece phrase
  pub is : may_be class (rank_at phrase.nodes) ≡ true

-- the phrases below a node follow one another as children wherever they stand
pub record IsBelow (list : List Child) (below : Below) : Type 0 where
  pub follow : (nodes : List TreeNode) (at levels : ℕ) → Stands nodes at below.nodes → below.height ≤ levels → Follow (Spans nodes levels) (shift at list) at (at + length below.nodes)

pub below_none : IsBelow [] nothing
below_none = record { follow = λ nodes at levels stands high. omega arith }

follow_more : (P : Child → ℕ → Type 0) (list : List Child) (child : Child) (from middle end : ℕ) → Follow P list from middle → child.number ≡ middle → P child end → Follow P (list ++ child ∷ []) from end
follow_more P [] child from middle end follow e is = (e ∙ sym follow, end, is, refl)
follow_more P (first ∷ list) child from middle end follow e is = (follow.0, follow.1, follow.2, follow_more P list child follow.1 middle end follow.3 e is)

pub below_more : {list : List Child} {below : Below} {class : Class} {phrase : Phrase} → IsBelow list below → IsA class phrase → IsBelow (list ++ one class (number below) ∷ []) (below ▸ phrase)
below_more {list} {below} {class} {phrase} front is_a =
    record {
      follow = λ nodes at levels stands high.
          let middle = at + length below.nodes in
          let first = front.follow nodes at levels (stands_first nodes at below.nodes phrase.nodes stands) (omega arith) in
          let more = is_a.piece.span nodes middle levels class (stands_rest nodes at below.nodes phrase.nodes stands) (omega arith) is_a.is in
          let all = follow_more (Spans nodes levels) (shift at list) (one class middle) at middle (middle + length phrase.nodes) first refl more in
          let same = shift_append at list (one class (number below) ∷ []) in
          let end : middle + length phrase.nodes ≡ at + length (below.nodes ++ phrase.nodes) = omega (arith, length-append below.nodes phrase.nodes) in
          subst (λ end. Follow (Spans nodes levels) (shift at (list ++ one class (number below) ∷ [])) at end) end
          (subst (λ list. Follow (Spans nodes levels) list at (middle + length phrase.nodes)) (sym same) all);
    }

pub below_under : {class : Class} {phrase : Phrase} → IsA class phrase → IsBelow (one class 0 ∷ []) (under phrase)
below_under {class} {phrase} is_a =
    record {
      follow = λ nodes at levels stands high.
          let e : at + 0 ≡ at = omega arith in
          let span = is_a.piece.span nodes at levels class stands high is_a.is in
          (e, at + length phrase.nodes, subst (λ n. Spans nodes levels (one class n) (at + length phrase.nodes)) (sym e) span, refl);
    }

node_span : (place : ℕ) (form : Form) (below : Below) → HasWords form → IsBelow (children form) below → (nodes : List TreeNode) (at levels : ℕ) (class : Class) → Stands nodes at (above place form below).nodes → suc below.height ≤ levels → may_be class (rank form) ≡ true → Spans nodes levels (one class at) (at + suc (length below.nodes))
node_span place form below words is_below nodes at zero class stands high is = absurd (omega (arith, high))
node_span place form below words is_below nodes at (suc levels) class stands high is =
    let follow = is_below.follow nodes (suc at) levels stands.1 (omega (arith, high)) in
    let end : suc at + length below.nodes ≡ at + suc (length below.nodes) = omega arith in (
      record { form = numbered.form (suc at) form; at = place },
      stands.0,
      ap (may_be class) (rank_form (suc at) form) ∙ is,
      words_form (suc at) form words,
      subst (λ end. Follow (Spans nodes levels) (children (numbered.form (suc at) form)) (suc at) end) end
          (subst (λ list. Follow (Spans nodes levels) list (suc at) (suc at + length below.nodes)) (sym (children_form (suc at) form)) follow),
    )

-- a node above its children is a piece
pub node_is : {place : ℕ} {form : Form} {below : Below} {class : Class} → HasWords form → IsBelow (children form) below → may_be class (rank form) ≡ true → IsA class (above place form below)
node_is {place} {form} {below} words is_below is = record { piece = record { span = node_span place form below words is_below; words = words }; is = is }

-- one more child of a row, behind other children
pub row_more : {class : Class} (front : List Child) (row : Row ℕ) {phrase : Phrase} → IsBelow (front ++ map (one class) row.items) row.below → IsA class phrase → IsBelow (front ++ map (one class) (with_child row phrase).items) (with_child row phrase).below
row_more {class} front row {phrase} is_below is_a =
    let child = one class (number row.below) in
    let mapped : map (one class) (row.items ++ number row.below ∷ []) ≡ map (one class) row.items ++ child ∷ [] = map_more row.items in
    let same : (front ++ map (one class) row.items) ++ child ∷ [] ≡ front ++ map (one class) (row.items ++ number row.below ∷ []) = append_assoc front (map (one class) row.items) (child ∷ []) ∙ ap (λ list. front ++ list) (sym mapped) in
    subst (λ list. IsBelow list (row.below ▸ phrase)) same (below_more is_below is_a) where
      map_more : (items : List ℕ) → map (one class) (items ++ number row.below ∷ []) ≡ map (one class) items ++ one class (number row.below) ∷ []
      map_more [] = refl
      map_more (item ∷ items) = ap (λ list. one class item ∷ list) (map_more items)
