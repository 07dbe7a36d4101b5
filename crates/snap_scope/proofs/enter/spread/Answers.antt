use Rattle.std.proofs.Common.{◌≡◌, ℕ, ◌+◌, take, List, subst, sym, arith, set, get_or, length-set}
use Rattle.std.specs.Prelude.{slice_get, Some}
use Rattle.std.proofs.lemmas.List.{take_all}
use Rattle.snap_scope.proofs.Spread.{children_more, others_more}
use Rattle.snap_scope.proofs.enter.spread.Goals as goal
use Rattle.snap_scope.specs.Visit.{child_context}
use Rattle.snap_scope.specs.declared.context.Context.{Context}
use Rattle.spec_scopes.specs.Round.{IsAmong}

pub returns-clause-children : goal.returns-clause-children
returns-clause-children c = λ child among.
    c.loop-child.invariant.children child (subst (λ (xs : List ℕ). IsAmong xs child) (sym (take_all c.loop-child.child-index c.args.children.now (omega arith))) among)

pub loop-child-preserved : goal.loop-child-preserved
loop-child-preserved c =
    let now : List Context = c.loop-child.contexts.items in
    let i : ℕ = c.loop-child.child-index in
    let of : ℕ → Context = child_context c.args.form.now c.args.context c.args.own in
    let next : ℕ = get_or c.args.children.now i 0 in
    let is : c.child_context.result ≡ of next = c.child_context.ensures in
    record {
      long = omega (arith, length-set {A = Context}, c.loop-child.invariant.long);
      children = subst (λ (x : Context). (child : ℕ) → IsAmong (take (i + 1) c.args.children.now) child → slice_get (set now next x) child ≡ Some (of child)) (sym is)
          (children_more c.args.children.now i (omega arith) c.args.contexts.now.items now of c.requires c.loop-child.invariant.long c.loop-child.invariant.children);
      others = subst (λ (x : Context). (other : ℕ) → (IsAmong (take (i + 1) c.args.children.now) other → ⊥) → slice_get (set now next x) other ≡ slice_get c.args.contexts.now.items other) (sym is)
          (others_more c.args.children.now i (omega arith) c.args.contexts.now.items now of c.requires c.loop-child.invariant.long c.loop-child.invariant.others);
    }
