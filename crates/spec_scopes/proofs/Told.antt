-- The early error that is told stands, and where none is told none stands.
use Rattle.std.proofs.Common.{◌≡◌, ℕ, inl, inr, Bool, true, false, not, List, take, refl, sym, subst, ap, ◌∙◌}
use Rattle.std.specs.Prelude.{slice_get, Option, None, Some}
use Rattle.std.specs.List.{list_any}
use Rattle.std.specs.Option.{option_and_then, option_or}
use Rattle.std.specs.Str.{bytes_eq as text_eq}
use Rattle.std.proofs.lemmas.Bool.{not-true}
use Rattle.std.proofs.lemmas.Option.{slice_get_within}
use Rattle.std.proofs.lemmas.Slice.Eq.{bytes_eq-Decides}
use Rattle.snap_ast.specs.Lawful.{Lawful}
use Rattle.snap_ast.specs.declared.form.Form.{Form}
use Rattle.snap_ast.specs.declared.tree.Tree.{Tree}
use Rattle.snap_ast.specs.declared.tree.TreeNode.{TreeNode}
use Rattle.spec_scopes.proofs.Firsts.{Answers, any_at, any_passes, first_answers, none_answers, only_false, only_true, or_none, or_some, take_at, taken}
use Rattle.spec_scopes.proofs.Rounds.{round_is}
use Rattle.spec_scopes.proofs.Standing.{some_round}
use Rattle.spec_scopes.specs.EarlyErrors.{HasFault, Repeats, is_reference, is_stray, target_of}
use Rattle.spec_scopes.specs.Names.{Declared}
use Rattle.spec_scopes.specs.Round.{Stands, Step}
use Rattle.spec_scopes.specs.Scopes.{names_apart, script_names}
use Rattle.spec_scopes.specs.Told.{bad_reference, bad_target, early_error, error_at, first_answer, first_repeat, only_if, repeat_at, round_of, stray_jump}
use Rattle.spec_scopes.specs.declared.fault.ScopeFault.{ScopeFault}
use Rattle.spec_scopes.specs.declared.fault.ScopeFault.TheVariants.{Duplicate, BadTarget, StrayJump, NoMemory}

-- ---- names that repeat

abbrev same_name : Declared → Declared → Bool
same_name declared earlier = text_eq declared.named.name earlier.named.name

record IsRepeat (names : List Declared) (fault : ScopeFault) : Type 0 where
  at : ℕ
  fault_is : Duplicate at ≡ fault
  repeats : Repeats names at

repeat_stands : (names : List Declared) (fault : ScopeFault) → first_repeat names ≡ Some fault → IsRepeat names fault
repeat_stands names fault e =
    let it : Answers (repeat_at names) names fault = first_answers (repeat_at names) names fault e in
    let is = only_true (list_any (same_name it.item) (take it.place names)) (Duplicate it.item.named.at) fault it.answers in
    let earlier = any_passes (same_name it.item) (take it.place names) is.0 in
    let before = taken names it.place earlier.place earlier.item earlier.stands in
    record {
      at = it.item.named.at;
      fault_is = is.1;
      repeats = record {
        earlier = earlier.place;
        later = it.place;
        first = earlier.item;
        second = it.item;
        before = before.1;
        has_first = before.0;
        has_second = it.stands;
        same = sym ((bytes_eq-Decides it.item.named.name earlier.item.named.name).0 earlier.passes);
        place = refl;
      };
    }

no_repeat : (names : List Declared) → first_repeat names ≡ None → (at : ℕ) → Repeats names at → ⊥
no_repeat names e at h =
    let none = only_false (list_any (same_name h.second) (take h.later names)) (Duplicate h.second.named.at) (none_answers (repeat_at names) names e h.later h.second h.has_second) in
    let some = any_at (same_name h.second) (take h.later names) h.earlier h.first (take_at names h.later h.earlier h.first h.before h.has_first) ((bytes_eq-Decides h.second.named.name h.first.named.name).1 (sym h.same)) in
    absurd cc

-- ---- targets

record IsBadTarget (nodes : List TreeNode) (form : Form) (fault : ScopeFault) : Type 0 where
  number : ℕ
  target : TreeNode
  is_target : target_of form ≡ Some number
  stands : slice_get nodes number ≡ Some target
  is_bad : is_reference target.form ≡ false
  fault_is : BadTarget target.at ≡ fault

target_stands : (nodes : List TreeNode) (form : Form) (fault : ScopeFault) → bad_target nodes form ≡ Some fault → IsBadTarget nodes form fault
target_stands nodes form fault e = of_form (target_of form) refl e
  where
    of_node : (number : ℕ) → target_of form ≡ Some number → (found : Option TreeNode) → slice_get nodes number ≡ found → option_and_then bad_reference found ≡ Some fault → IsBadTarget nodes form fault
    of_node number is None at e = absurd cc
    of_node number is (Some target) at e =
        let bad = only_true (not (is_reference target.form)) (BadTarget target.at) fault e in
        record { number = number; target = target; is_target = is; stands = at; is_bad = not-true (is_reference target.form) bad.0; fault_is = bad.1 }

    of_form : (found : Option ℕ) → target_of form ≡ found → option_and_then bad_reference (option_and_then (slice_get nodes) found) ≡ Some fault → IsBadTarget nodes form fault
    of_form None is e = absurd cc
    of_form (Some number) is e = of_node number is (slice_get nodes number) refl e

pub target_at : (nodes : List TreeNode) (form : Form) (number : ℕ) (target : TreeNode) → target_of form ≡ Some number → slice_get nodes number ≡ Some target → bad_target nodes form ≡ bad_reference target
target_at nodes form number target is at =
    ap (λ (found : Option ℕ). option_and_then bad_reference (option_and_then (slice_get nodes) found)) is ∙ ap (option_and_then bad_reference) at

-- ---- nodes

module _ (tree : Tree) (lawful : Lawful tree) where
  repeat_has : (fault : ScopeFault) → IsRepeat (script_names tree).names fault → HasFault tree fault
  repeat_has fault h = subst (HasFault tree) h.fault_is (inl h.repeats)

  node_repeat_has : (number : ℕ) (node : TreeNode) (fault : ScopeFault) → slice_get tree.nodes number ≡ Some node → IsRepeat (names_apart tree.nodes node.form) fault → HasFault tree fault
  node_repeat_has number node fault at h = subst (HasFault tree) h.fault_is (inr (number, node, at, h.repeats))

  target_has : (number : ℕ) (node : TreeNode) (fault : ScopeFault) → slice_get tree.nodes number ≡ Some node → IsBadTarget tree.nodes node.form fault → HasFault tree fault
  target_has number node fault at h = subst (HasFault tree) h.fault_is (number, node, at, (h.number, h.target, h.is_target, h.stands, h.is_bad, refl))

  pub stands_here : (number : ℕ) (node : TreeNode) → slice_get tree.nodes number ≡ Some node → Stands tree number (round_of tree number)
  stands_here number node at =
      let round = some_round tree number lawful (slice_get_within tree.nodes number node at) in
      subst (Stands tree number) (sym (round_is tree number round.0 lawful round.1)) round.1

  jump_has : (number : ℕ) (node : TreeNode) (fault : ScopeFault) → slice_get tree.nodes number ≡ Some node → stray_jump node (round_of tree number) ≡ Some fault → HasFault tree fault
  jump_has number node fault at e =
      let is = only_true (is_stray node.form (round_of tree number)) (StrayJump node.at) fault e in
      subst (HasFault tree) is.1 (number, node, round_of tree number, at, stands_here number node at, is.0, refl)

  node_has : (number : ℕ) (node : TreeNode) (fault : ScopeFault) → slice_get tree.nodes number ≡ Some node → error_at tree number node ≡ Some fault → HasFault tree fault
  node_has number node fault at e =
      let jump = stray_jump node (round_of tree number) in
      let repeat = first_repeat (names_apart tree.nodes node.form) in
      elim (or_some (bad_target tree.nodes node.form) (option_or jump repeat) fault e) as (λ _. HasFault tree fault) [
        | inl target ↦ target_has number node fault at (target_stands tree.nodes node.form fault target)
        | inr others ↦ elim (or_some jump repeat fault others) as (λ _. HasFault tree fault) [
          | inl stray ↦ jump_has number node fault at stray
          | inr repeats ↦ node_repeat_has number node fault at (repeat_stands (names_apart tree.nodes node.form) fault repeats)
        ]
      ]

  -- no early error stands at a node that has none
  node_has_none : (number : ℕ) (node : TreeNode) (fault : ScopeFault) → slice_get tree.nodes number ≡ Some node → error_at tree number node ≡ None
      → (bad_target tree.nodes node.form ≡ None) × (is_stray node.form (round_of tree number) ≡ false) × (first_repeat (names_apart tree.nodes node.form) ≡ None)
  node_has_none number node fault at e =
      let jump = stray_jump node (round_of tree number) in
      let repeat = first_repeat (names_apart tree.nodes node.form) in
      let first = or_none (bad_target tree.nodes node.form) (option_or jump repeat) e in
      let second = or_none jump repeat first.1 in
      (first.0, only_false (is_stray node.form (round_of tree number)) (StrayJump node.at) second.0, second.1)

pub told_stands : (tree : Tree) (fault : ScopeFault) → Lawful tree → early_error tree ≡ Some fault → HasFault tree fault
unfolding early_error
told_stands tree fault lawful e =
    elim (or_some (first_repeat (script_names tree).names) (first_answer (error_at tree) tree.nodes) fault e) as (λ _. HasFault tree fault) [
      | inl script ↦ repeat_has tree lawful fault (repeat_stands (script_names tree).names fault script)
      | inr nodes ↦ (let it : Answers (error_at tree) tree.nodes fault = first_answers (error_at tree) tree.nodes fault nodes in
          node_has tree lawful it.place it.item fault it.stands it.answers)
    ]

pub none_told : (tree : Tree) (fault : ScopeFault) → Lawful tree → early_error tree ≡ None → HasFault tree fault → ⊥
unfolding early_error
none_told tree (Duplicate at) lawful e (inl h) = no_repeat (script_names tree).names (or_none (first_repeat (script_names tree).names) (first_answer (error_at tree) tree.nodes) e).0 at h
none_told tree (Duplicate at) lawful e (inr h) =
    let none = none_answers (error_at tree) tree.nodes (or_none (first_repeat (script_names tree).names) (first_answer (error_at tree) tree.nodes) e).1 h.0 h.1 h.2 in
    no_repeat (names_apart tree.nodes h.1.form) (node_has_none tree lawful h.0 h.1 (Duplicate at) h.2 none).2 at h.3
none_told tree (BadTarget at) lawful e h =
    let none = none_answers (error_at tree) tree.nodes (or_none (first_repeat (script_names tree).names) (first_answer (error_at tree) tree.nodes) e).1 h.0 h.1 h.2 in
    let good = (node_has_none tree lawful h.0 h.1 (BadTarget at) h.2 none).0 in
    let bad = target_at tree.nodes h.1.form h.3.0 h.3.1 h.3.2 h.3.3 ∙ ap (λ (b : Bool). only_if (not b) (BadTarget h.3.1.at)) h.3.4 in
    absurd cc
none_told tree (StrayJump at) lawful e h =
    let none = none_answers (error_at tree) tree.nodes (or_none (first_repeat (script_names tree).names) (first_answer (error_at tree) tree.nodes) e).1 h.0 h.1 h.3 in
    let calm = (node_has_none tree lawful h.0 h.1 (StrayJump at) h.3 none).1 in
    let stray : is_stray h.1.form (round_of tree h.0) ≡ true = subst (λ (round : List Step). is_stray h.1.form round ≡ true) (sym (round_is tree h.0 h.2 lawful h.4)) h.5 in
    absurd cc
none_told tree NoMemory lawful e h = h
