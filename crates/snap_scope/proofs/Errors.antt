-- The early error of a node, by what is asked of it in turn, and of a tree, by its nodes in turn.
use Rattle.std.proofs.Common.{◌≡◌, ◌≢◌, ℕ, Bool, false, length, refl, ap, ◌∙◌}
use Rattle.std.specs.Prelude.{slice_get, List, Option, None, Some, Result, Ok, Err, IfErr}
use Rattle.std.specs.Option.{option_or}
use Rattle.snap_ast.specs.declared.tree.Tree.{Tree}
use Rattle.snap_ast.specs.declared.tree.TreeNode.{TreeNode}
use Rattle.snap_scope.specs.Chains.{Table}
use Rattle.snap_scope.specs.Faults.{IsTold}
use Rattle.snap_scope.specs.Visit.{Visited}
use Rattle.snap_scope.specs.declared.context.Context.{Context}
use Rattle.snap_scope.specs.declared.context.NodeEntry.{NodeEntry}
use Rattle.spec_scopes.proofs.Firsts.{first_is, none_is}
use Rattle.spec_scopes.specs.EarlyErrors.{is_stray}
use Rattle.spec_scopes.specs.Round.{Step}
use Rattle.spec_scopes.specs.Scopes.{names_apart, script_names}
use Rattle.spec_scopes.specs.Told.{bad_target, early_error, error_at, first_answer, first_repeat, node_error, only_if, stray_jump}
use Rattle.spec_scopes.specs.declared.fault.ScopeFault.{ScopeFault}
use Rattle.spec_scopes.specs.declared.place.SlotPlace.{SlotPlace}
use Rattle.spec_scopes.specs.declared.fault.ScopeFault.TheVariants.{Duplicate, BadTarget, StrayJump, NoMemory}

-- what is told where one early error is told, is told where another is, if that is the same
pub told_by : (one other : Option ScopeFault) (fault : ScopeFault) → ((same : ScopeFault) → one ≡ Some same → other ≡ Some same) → IsTold one fault → IsTold other fault
told_by one other (Duplicate at) by h = by (Duplicate at) h
told_by one other (BadTarget at) by h = by (BadTarget at) h
told_by one other (StrayJump at) by h = by (StrayJump at) h
told_by one other NoMemory by h = tt

-- where memory has not run out, it is the one
pub is_one : (one : Option ScopeFault) (fault : ScopeFault) → IsTold one fault → fault ≢ NoMemory → one ≡ Some fault
is_one one (Duplicate at) h apart = h
is_one one (BadTarget at) h apart = h
is_one one (StrayJump at) h apart = h
is_one one NoMemory h apart = absurd (apart refl)

pub err_by : {T E : Type 0} → {A B : E → Type 0} → (result : Result T E) → ((e : E) → A e → B e) → IfErr result A → IfErr result B
err_by (Ok x) by h = h
err_by (Err e) by h = by e h

module _ (tree : Tree) (node : TreeNode) (steps : List Step) where
  -- names come last
  pub names_last : bad_target tree.nodes node.form ≡ None → is_stray node.form steps ≡ false → (found : Option ScopeFault) → first_repeat (names_apart tree.nodes node.form) ≡ found → node_error tree node steps ≡ found
  names_last none calm found names =
      ap (λ (one : Option ScopeFault). option_or one (option_or (stray_jump node steps) (first_repeat (names_apart tree.nodes node.form)))) none
      ∙ ap (λ (b : Bool). option_or (only_if b (StrayJump node.at)) (first_repeat (names_apart tree.nodes node.form))) calm ∙ names

-- ---- of the tree

-- that of the names of the script comes first
pub script_first : (tree : Tree) (fault : ScopeFault) → IsTold (first_repeat (script_names tree).names) fault → fault ≢ NoMemory → early_error tree ≡ Some fault
unfolding early_error
script_first tree fault h apart =
    ap (λ (one : Option ScopeFault). option_or one (first_answer (error_at tree) tree.nodes)) (is_one (first_repeat (script_names tree).names) fault h apart)

module _ (tree : Tree) (table : Table) (contexts : List Context) (entries : List NodeEntry) (found : List (Option SlotPlace)) where
  -- then that of the next node
  pub node_next : (number : ℕ) (node : TreeNode) (fault : ScopeFault) → Visited tree table contexts entries found number → slice_get tree.nodes number ≡ Some node → IsTold (error_at tree number node) fault → IsTold (early_error tree) fault
  unfolding early_error
  node_next number node fault is at h = told_by (error_at tree number node) (early_error tree) fault next h
    where
      next : (same : ScopeFault) → error_at tree number node ≡ Some same → early_error tree ≡ Some same
      next same e =
          ap (λ (one : Option ScopeFault). option_or one (first_answer (error_at tree) tree.nodes)) is.apart ∙ first_is (error_at tree) tree.nodes number node at is.clean same e

  -- and none, once all are visited
  pub none_left : Visited tree table contexts entries found (length tree.nodes) → early_error tree ≡ None
  unfolding early_error
  none_left is = ap (λ (one : Option ScopeFault). option_or one (first_answer (error_at tree) tree.nodes)) is.apart ∙ none_is (error_at tree) tree.nodes is.clean
