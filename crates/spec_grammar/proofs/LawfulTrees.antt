-- The tree of a source is lawful.
use Rattle.std.proofs.Common.{◌∙◌, ◌≡◌, ℕ, suc, ◌+◌, ◌≤◌, List, [], ◌∷◌, ◌++◌, append_assoc, length, map, slice_get, refl, sym, ap, subst, arith, length-append}
use Rattle.std.specs.Prelude.{Some}
use Rattle.snap_ast.proofs.Tables.{get_seam}
use Rattle.snap_ast.specs.Children.{Child, statement}
use Rattle.snap_ast.specs.Lawful.{Follow, Lawful, Spans, most_levels}
use Rattle.snap_ast.specs.declared.tree.Tree.{Tree}
use Rattle.snap_ast.specs.declared.tree.TreeNode.{TreeNode}
use Rattle.spec_grammar.proofs.LawfulForms.{shift}
use Rattle.spec_grammar.proofs.LawfulPhrases.{statement_is}
use Rattle.spec_grammar.proofs.LawfulPieces.{IsBelow, Stands, below_none, row_more}
use Rattle.spec_grammar.proofs.LawfulTokens.{AreRight, tokens_right}
use Rattle.spec_grammar.specs.Grammar as g
use Rattle.spec_grammar.specs.Grammar.{IsScript}
use Rattle.spec_grammar.specs.Numbered.{form, numbered, tree_of}
use Rattle.spec_grammar.specs.Phrase.{Row}
use Rattle.spec_grammar.specs.Source.{HasTree}
use Rattle.spec_tokens.specs.Tokens.{Lexeme}

script_is : {row all : Row ℕ} {input : List Lexeme} → IsScript row input all → IsBelow (map statement row.items) row.below → AreRight input → IsBelow (map statement all.items) all.below
script_is g.ScriptEnd below right = below
script_is (g.ScriptMore {row = row} d t) below right =
    let first = statement_is d right in
    script_is t (row_more [] row below first.0.is_a) first.1

-- ---- the table

numbered_len : (at : ℕ) (nodes : List TreeNode) → length (numbered at nodes) ≡ length nodes
numbered_len at [] = refl
numbered_len at (node ∷ nodes) = ap suc (numbered_len (suc at) nodes)

-- nodes with their numbers stand behind those before them
stands_behind : (nodes before : List TreeNode) (at : ℕ) (part : List TreeNode) → nodes ≡ before ++ numbered at part → at ≡ length before → Stands nodes at part
stands_behind nodes before at [] e is = tt
stands_behind nodes before at (node ∷ part) e is =
    let first : TreeNode = record { form = form (suc at) node.form; at = node.at } in
    let got : slice_get nodes at ≡ Some first = ap (λ list. slice_get list at) e ∙ ap (slice_get (before ++ first ∷ numbered (suc at) part)) is ∙ get_seam before first (numbered (suc at) part) in
    let len = length-append before (first ∷ []) in
    (got, stands_behind nodes (before ++ first ∷ []) (suc at) part (e ∙ sym (append_assoc before (first ∷ []) (numbered (suc at) part))) (omega (arith, is, len)))

shift_zero : (list : List Child) → shift 0 list ≡ list
shift_zero [] = refl
shift_zero (child ∷ list) =
    let e : 0 + child.number ≡ child.number = omega arith in
    ap (λ number. record { class = child.class; number = number } ∷ shift 0 list) e ∙ ap (λ rest. child ∷ rest) (shift_zero list)

row_lawful : (row : Row ℕ) → IsBelow (map statement row.items) row.below → row.below.height ≤ most_levels → Lawful (tree_of row)
row_lawful row below high =
    let nodes = numbered 0 row.below.nodes in
    let children = map statement row.items in
    let follow = below.follow nodes 0 most_levels (stands_behind nodes [] 0 row.below.nodes refl refl) high in
    let end : 0 + length row.below.nodes ≡ length nodes = omega (arith, numbered_len 0 row.below.nodes) in
    subst (λ end. Follow (Spans nodes most_levels) children 0 end) end
    (subst (λ list. Follow (Spans nodes most_levels) list 0 (0 + length row.below.nodes)) (shift_zero children) follow)

-- the tree of a source is lawful
pub tree_lawful : (source : List ℕ) (tree : Tree) → HasTree source tree → Lawful tree
tree_lawful source tree (row, is_source, high, e) =
    subst Lawful (sym e) (row_lawful row (script_is is_source.statements below_none (tokens_right is_source.cut)) high)
