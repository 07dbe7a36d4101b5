-- A phrase as nodes, and how a node is put above what stands below it.
use Rattle.std.specs.Prelude.{ℕ, suc, max, Bool, true, false, List, [], ◌∷◌, ◌++◌, length, Option, Some, None}
use Rattle.snap_ast.specs.declared.form.Form.{Form}
use Rattle.snap_ast.specs.declared.tree.TreeNode.{TreeNode}

-- The nodes of a phrase in preorder, of which the first is that of the phrase. A child's number in a form is
-- counted from the node behind the form's own: the first child is 0.
pub record Phrase : Type 0 where
  pub nodes : List TreeNode
  -- how many nodes stand above one another at most
  pub height : ℕ
  -- the phrase stands in parentheses
  pub is_wrapped : Bool
  -- the place of its first token
  pub at : ℕ

-- the phrases that stand below a node, so far
pub record Below : Type 0 where
  pub nodes : List TreeNode
  pub height : ℕ

abbrev pub nothing : Below
nothing = record { nodes = []; height = 0 }

infixl 20 ◌▸◌
-- and one more
abbrev pub ◌▸◌ : Below → Phrase → Below
below ▸ phrase = record { nodes = below.nodes ++ phrase.nodes; height = max below.height phrase.height }

abbrev pub under : Phrase → Below
under phrase = record { nodes = phrase.nodes; height = phrase.height }

-- the number of the next child
abbrev pub number : Below → ℕ
number below = length below.nodes

-- a node at a place, with what stands below it
abbrev pub above : ℕ → Form → Below → Phrase
above at form below = record { nodes = record { form = form; at = at } ∷ below.nodes; height = suc below.height; is_wrapped = false; at = at }

-- the phrase in parentheses, the first of which stands at a place
abbrev pub wrapped : ℕ → Phrase → Phrase
wrapped at phrase = record { nodes = phrase.nodes; height = phrase.height; is_wrapped = true; at = at }

-- parts of a production, in order, and the phrases in them
pub record Row (F : Type 0) : Type 0 where
  pub items : List F
  pub below : Below

-- no part, above phrases
abbrev pub row_on : {F : Type 0} → Below → Row F
row_on below = record { items = []; below = below }

-- one more part, which holds no phrase
abbrev pub with_part : {F : Type 0} → Row F → F → Row F
with_part row part = record { items = row.items ++ part ∷ []; below = row.below }

-- one more part, and the phrase in it
abbrev pub with_phrase : {F : Type 0} → Row F → F → Phrase → Row F
with_phrase row part phrase = record { items = row.items ++ part ∷ []; below = row.below ▸ phrase }

-- one more child
abbrev pub with_child : Row ℕ → Phrase → Row ℕ
with_child row phrase = with_phrase row (number row.below) phrase

-- a phrase that may be there: its number, and what stands below the node with it
pub record Optional : Type 0 where
  pub number : Option ℕ
  pub below : Below

abbrev pub absent : Below → Optional
absent below = record { number = None; below = below }

abbrev pub present : Below → Phrase → Optional
present below phrase = record { number = Some (number below); below = below ▸ phrase }
